use Rattle.complgen_scripts.proofs.ScriptLemmas.{none_found, unknown_reported}
use Rattle.complgen_scripts.proofs.shells.shell_of.Goals as goal

pub returns-in-Err : goal.returns-in-Err
returns-in-Err c = (
  λ shell is. none_found shell c.in-Err.unknown (c.in-Err.ensures.ok shell is),
  unknown_reported c.args.name.now c.in-Err.unknown c.error_refusal.result c.in-Err.ensures.err
      c.error_refusal.ensures,
)
