use Rattle.std.proofs.Common.{◌≡◌}
use Rattle.complgen_lints.specs.Premises.{premises_in}
use Rattle.complgen_lints.proofs.walk.place_advice.Given as goal

-- advice adds no premise
abbrev pub invariant-loop-finding : goal.invariant-loop-finding
invariant-loop-finding l = premises_in l.warnings.items ≡ premises_in l.initial.warnings.items
