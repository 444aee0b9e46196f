use Rattle.std.proofs.Common.{◌≡◌, ◌++◌, drop, map}
use Rattle.std.specs.Prelude.{filter}
use Rattle.cc_candidates.specs.Beginning.{begins}
use Rattle.cc_engine.specs.Values.{value_candidate}
use Rattle.cc_engine.proofs.gathering.possible.candidates_beginning.Given as goal

abbrev pub invariant-loop-value : goal.invariant-loop-value
invariant-loop-value l =
    l.found.items ++ filter (begins l.text) (map value_candidate (drop l.value-index l.values))
    ≡ filter (begins l.text) (map value_candidate l.values)
