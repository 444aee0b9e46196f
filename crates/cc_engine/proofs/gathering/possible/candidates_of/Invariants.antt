use Rattle.std.proofs.Common.{◌≡◌, take, map}
use Rattle.cc_engine.specs.Values.{value_candidate}
use Rattle.cc_engine.proofs.gathering.possible.candidates_of.Given as goal

abbrev pub invariant-loop-value : goal.invariant-loop-value
invariant-loop-value l = l.found.items ≡ map value_candidate (take l.value-index l.values)
