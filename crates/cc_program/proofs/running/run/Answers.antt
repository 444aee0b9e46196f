use Rattle.std.proofs.Common.{◌∙◌, ap}
use Rattle.std.proofs.lemmas.Result.{err_from_is_err_and}
use Rattle.cc_program.specs.Running.{no_environment, unread}
use Rattle.cc_program.proofs.Requested.{runs_some}
use Rattle.cc_program.proofs.running.run.Goals as goal

pub returns-in_err-words : goal.returns-in_err-words
returns-in_err-words g c =
    let p = err_from_is_err_and c.from_residual.result c.from_residual.ensures.1 in
    rw (p.1, p.2) (unread _ c.in_err-words.ensures)

pub returns-in_err-variables : goal.returns-in_err-variables
returns-in_err-variables g c =
    let p = err_from_is_err_and c.from_residual-in_err-variables.result c.from_residual-in_err-variables.ensures.1 in
    rw (p.1, p.2) no_environment

pub returns-in_err-found : goal.returns-in_err-found
returns-in_err-found g c =
    let p = err_from_is_err_and c.from_residual-in_err-found.result c.from_residual-in_err-found.ensures.1 in
    rw (p.1, p.2) no_environment

pub returns : goal.returns
returns g c =
    let set = c.release-completion.ensures in
    runs_some _ _ _ _ _ _ _ c.with_modes-folder.result.home _ _ _ _ _ c.run_here-ended.ensures.0
    (ap (λ env. env.factory) set ∙ c.safe.ensures.factory)
    (ap (λ env. env.variable.now) set ∙ c.safe.ensures.variable)
    (ap (λ env. env.bin) set ∙ c.safe.ensures.names.0)
    (ap (λ env. env.completer) set ∙ c.safe.ensures.names.1)
    (ap (λ env. env.shells.0.now) set ∙ c.safe.ensures.shells) c.run_here-ended.ensures.1
