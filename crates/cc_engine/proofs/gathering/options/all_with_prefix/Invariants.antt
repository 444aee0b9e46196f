use Rattle.std.proofs.Common.{◌≡◌, ◌++◌, map}
use Rattle.std.specs.Vec.Iter.{into_iter_items}
use Rattle.cc_engine.specs.OptionMatches.{with_prefix}
use Rattle.cc_engine.proofs.gathering.options.all_with_prefix.Given as goal

abbrev pub invariant-loop-candidate : goal.invariant-loop-candidate
invariant-loop-candidate l =
    l.found.items ++ map (with_prefix l.before) (into_iter_items l.candidate-iterator) ≡ map (with_prefix l.before) l.fn.candidates.items
