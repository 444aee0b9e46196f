use Rattle.std.proofs.Common.{refl}
use Rattle.std.proofs.lemmas.Result.{err_from_is_err_and}
use Rattle.cc_env.specs.OwnEnds.{not_answered}
use Rattle.cc_env.proofs.OwnLemmas.{unrequested, unwritten, written_whole}
use Rattle.cc_env.proofs.asking.own_answers.try_complete_asking.Goals as goal

pub returns-in_err-answer : goal.returns-in_err-answer
returns-in_err-answer g c =
    let p = err_from_is_err_and c.from_residual.result c.from_residual.ensures.1 in
    rw (p.1, p.2) (not_answered _ c.in_err-answer.ensures refl)

pub returns-in_default : goal.returns-in_default
returns-in_default g c =
    unrequested _ _ _ _ _ c.in_ok-answer.field-0 c.in_ok-answer.ensures c.in_default.not-Some refl

pub returns-in-Err : goal.returns-in-Err
returns-in-Err g c =
    unwritten _ _ _ _ _ c.in_ok-answer.field-0 c.in_ok-answer.ensures
    c.in-Some.answer _ c.in-Some.is c.in-Err.ensures.written c.in-Err.ensures.write_only

pub returns-in-Ok : goal.returns-in-Ok
returns-in-Ok g c =
    written_whole _ _ _ _ _ c.in_ok-answer.field-0 c.in_ok-answer.ensures c.in-Some.answer _ _
    c.in-Some.is c.status-status.ensures c.in-Ok.ensures.written
