use Rattle.std.specs.Prelude.{◌≤◌, length}
use Rattle.complgen_check.proofs.errors.places.last_member.Given as goal

abbrev pub invariant-loop-left : goal.invariant-loop-left
invariant-loop-left l = l.left ≤ length l.members

abbrev pub decreases-loop-left : goal.decreases-loop-left
decreases-loop-left l = l.left
