use Rattle.std.proofs.Common.{refl}
use Rattle.std.proofs.lemmas.Result.{err_from_is_err_and}
use Rattle.complgen_plans.proofs.ReplyLemmas.{nothing_found}
use Rattle.complgen_plans.proofs.WantedLemmas.{text_cut_off, text_written}
use Rattle.complgen_scripts.proofs.WritingLemmas.{ends_unread}
use Rattle.complgen_plans.proofs.wanted.write_wanted.Goals as goal

pub returns-in_err-command : goal.returns-in_err-command
returns-in_err-command g c =
    let p = err_from_is_err_and c.from_residual.result c.from_residual.ensures.1 in
    rw (p.1, p.2) (ends_unread _ _ _ _ _ _ _ _ c.in_err-command.ensures)

pub returns-in-Err : goal.returns-in-Err
returns-in-Err g c =
    nothing_found _ _ _ _ _ _ _ _ _ _ c.args.word.words.now refl c.in_ok-command.ensures
    c.in-Err.ensures.err c.error_refusal.ensures

pub returns-in-Ok-put_all : goal.returns-in-Ok-put_all
returns-in-Ok-put_all g c =
    text_written _ _ _ _ _ _ _ _ _ _ c.in_ok-command.ensures c.in-Ok.ensures.ok
    c.as_slice.ensures.value c.in-Ok-put_all.ensures.written

pub returns : goal.returns
returns g c =
    text_cut_off _ _ _ _ _ _ _ _ _ _ _ _ c.in_ok-command.ensures c.in-Ok.ensures.ok
    c.as_slice.ensures.value c.in-Err-put_all.ensures.written
    c.in-Err-put_all.ensures.write_only c.error_refusal-in-Err-put_all.ensures
