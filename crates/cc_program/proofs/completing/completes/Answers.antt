use Rattle.std.proofs.Common.{◌∙◌, Err, ap, refl}
use Rattle.std.proofs.lemmas.Result.{err_from_is_err_and}
use Rattle.cc_program.specs.Requests.{out_of_memory}
use Rattle.cc_program.proofs.Requested.{tries_some}
use Rattle.cc_program.proofs.completing.completes.Goals as goal

pub returns-in_err-variables : goal.returns-in_err-variables
returns-in_err-variables g c =
    let p = err_from_is_err_and c.from_residual.result c.from_residual.ensures.1 in
    out_of_memory (p.1 ∙ ap Err p.2) refl

pub returns-in_err-found : goal.returns-in_err-found
returns-in_err-found g c =
    let p = err_from_is_err_and c.from_residual-in_err-found.result c.from_residual-in_err-found.ensures.1 in
    out_of_memory (p.1 ∙ ap Err p.2) refl

pub returns : goal.returns
returns g c =
    tries_some _ _ _ _ _ _ _ _ c.with_modes-folder.result.home _ _ _ _ _ c.safe-completion.ensures.factory c.safe-completion.ensures.variable
    c.safe-completion.ensures.names.0 c.safe-completion.ensures.names.1 c.safe-completion.ensures.shells c.answers_in-ended.ensures
