use Rattle.complgen_c.specs.Registrations.{known_shell, unknown_shell}
use Rattle.complgen_c.proofs.registrations.make_in.Goals as goal

pub returns-in-Ok : goal.returns-in-Ok
returns-in-Ok g c = known_shell _ _ c.in-Ok.ensures.ok c.make_text.ensures

pub returns-in-Err : goal.returns-in-Err
returns-in-Err g c =
    unknown_shell _ _ c.in-Err.ensures.err.0 c.in-Err.ensures.err.1 c.error_refusal.ensures
