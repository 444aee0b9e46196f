use Rattle.std.proofs.Common.{refl}
use Rattle.std.proofs.lemmas.Result.{err_from_is_err_and}
use Rattle.complgen_live.specs.Replies.{not_answered, not_requested}
use Rattle.complgen_live.proofs.AnswerLemmas.{unwritten, written_whole}
use Rattle.complgen_live.proofs.replies.reply.Goals as goal

pub returns-in_err-answer : goal.returns-in_err-answer
returns-in_err-answer g c =
    let p = err_from_is_err_and c.from_residual.result c.from_residual.ensures.1 in
    rw (p.1, p.2) (not_answered _ c.in_err-answer.ensures (refl {a = c.args.out.now}))

pub returns-in_default : goal.returns-in_default
returns-in_default g c = not_requested (rw c.in_default.is at c.in_ok-answer.ensures) refl

pub returns-in-Err : goal.returns-in-Err
returns-in-Err g c =
    unwritten _ _ _ _ _ _ (rw c.in-Some.is at c.in_ok-answer.ensures) _
    c.in-Err.ensures.written c.in-Err.ensures.write_only

pub returns-in-Ok : goal.returns-in-Ok
returns-in-Ok g c =
    written_whole _ _ _ _ _ _ (rw c.in-Some.is at c.in_ok-answer.ensures) _ _ c.status-status.ensures
    c.in-Ok.ensures.written
