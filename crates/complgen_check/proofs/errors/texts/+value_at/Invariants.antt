use Rattle.std.specs.Prelude.{length}
use Rattle.complgen_check.proofs.errors.texts.+value_at.Given as goal

abbrev pub decreases-value_at : goal.decreases-value_at
decreases-value_at l = length l.path.now
