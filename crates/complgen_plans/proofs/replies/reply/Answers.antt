use Rattle.std.proofs.lemmas.Result.{err_from_is_err_and}
use Rattle.complgen_plans.proofs.ReplyLemmas.{none_found, reply_failed, reply_written}
use Rattle.complgen_scripts.proofs.WritingLemmas.{ends_unread, ends_unwritten}
use Rattle.complgen_plans.proofs.replies.reply.Goals as goal

pub returns-in_err-command : goal.returns-in_err-command
returns-in_err-command g c =
    let p = err_from_is_err_and c.from_residual.result c.from_residual.ensures.1 in
    rw (p.1, p.2) (ends_unread _ _ _ _ _ _ _ _ c.in_err-command.ensures)

pub returns-in_err-words : goal.returns-in_err-words
returns-in_err-words g c =
    let p = err_from_is_err_and c.from_residual-in_err-words.result c.from_residual-in_err-words.ensures.1 in
    rw p.1 (ends_unwritten _ _ _ _ _ _ _ _ _ c.in_ok-command.ensures p.2)

pub returns-in-Err : goal.returns-in-Err
returns-in-Err g c =
    none_found _ _ _ _ _ _ _ _ _ _ c.in_ok-words.words.items c.in_ok-words.ensures
    c.in_ok-command.ensures c.in-Err.ensures.err c.error_refusal.ensures

pub returns-in-Ok-write_lines : goal.returns-in-Ok-write_lines
returns-in-Ok-write_lines g c =
    reply_written _ _ _ _ _ _ _ _ _ _ _ c.in_ok-words.words.items c.in_ok-words.ensures
    c.in_ok-command.ensures c.in-Ok.ensures.ok c.as_slice.ensures.value
    c.in-Ok-write_lines.ensures.written c.in-Ok-write_lines.ensures.read_back

pub returns : goal.returns
returns g c =
    reply_failed _ _ _ _ _ _ _ _ _ _ _ _ _ c.in_ok-words.words.items c.in_ok-words.ensures
    c.in_ok-command.ensures c.in-Ok.ensures.ok c.as_slice.ensures.value
    c.in-Err-write_lines.ensures.written c.in-Err-write_lines.ensures.write_only
    c.in-Err-write_lines.ensures.read_back c.error_refusal-in-Err-write_lines.ensures
