use Rattle.std.proofs.Common.{◌≡◌, ◌++◌, map}
use Rattle.std.specs.Vec.Iter.{into_iter_items}
use Rattle.complgen_lints.specs.Findings.{placed_finding}
use Rattle.complgen_lints.specs.PremiseList.{premises_of}
use Rattle.complgen_lints.specs.Premises.{premises_in}
use Rattle.complgen_lints.proofs.walk.place_premises.Given as goal

-- the premises so far and the remaining ones make the whole
abbrev pub invariant-loop-finding : goal.invariant-loop-finding
invariant-loop-finding l =
    premises_in l.warnings.items ++ map (placed_finding l.at.path.now) (into_iter_items l.finding-iterator)
    ≡ premises_in l.initial.warnings.items ++ map (placed_finding l.at.path.now) (premises_of l.command)
