use Rattle.std.proofs.lemmas.Result.{err_from_is_err_and}
use Rattle.complgen_scripts.specs.ScriptEnds.{known_shell, unknown_shell}
use Rattle.complgen_scripts.proofs.WritingLemmas.{same}
use Rattle.complgen_plans.proofs.registrations.register.Goals as goal

pub returns-in_err-shell : goal.returns-in_err-shell
returns-in_err-shell g c =
    let p = err_from_is_err_and c.from_residual.result c.from_residual.ensures.1 in
    rw (p.1, p.2) (unknown_shell _ c.in_err-shell.ensures (same _ _ _))

pub returns : goal.returns
returns g c = known_shell _ _ c.in_ok-shell.ensures c.register_named.ensures
