use Rattle.std.proofs.lemmas.Result.{err_from_is_err_and}
use Rattle.complgen_live.specs.Answers.{answered, not_answered, not_prepared, not_requested}
use Rattle.complgen_live.proofs.answers.answer_request.Goals as goal

pub returns-in_err-prepared : goal.returns-in_err-prepared
returns-in_err-prepared g c =
    let p = err_from_is_err_and c.from_residual.result c.from_residual.ensures.1 in
    rw (p.1, p.2) (not_prepared _ c.in_err-prepared.ensures)

pub returns-in_default : goal.returns-in_default
returns-in_default g c = not_requested (rw c.in_default.is at c.in_ok-prepared.ensures)

pub returns-in_err-answer_for : goal.returns-in_err-answer_for
returns-in_err-answer_for g c =
    let p = err_from_is_err_and c.from_residual-in_err-answer_for.result c.from_residual-in_err-answer_for.ensures.1 in
    rw (p.1, p.2) (not_answered _ _ (rw c.in-Some.is at c.in_ok-prepared.ensures)
    c.in_err-answer_for.ensures)

pub returns : goal.returns
returns g c =
    answered _ _ (rw c.in-Some.is at c.in_ok-prepared.ensures) c.in_ok-answer_for.ensures
