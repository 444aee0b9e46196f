use Rattle.std.specs.Prelude.{length}
use Rattle.complgen_check.proofs.errors.spots.+offset_at.Given as goal

abbrev pub decreases-offset_at : goal.decreases-offset_at
decreases-offset_at l = length l.path.now
