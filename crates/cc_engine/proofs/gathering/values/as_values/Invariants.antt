use Rattle.std.proofs.Common.{◌≡◌, ◌++◌, map}
use Rattle.std.specs.Vec.Iter.{into_iter_items}
use Rattle.cc_engine.specs.Values.{as_value}
use Rattle.cc_arg.specs.Printed.{printed}
use Rattle.cc_engine.proofs.gathering.values.as_values.Given as goal

abbrev pub invariant-loop-candidate : goal.invariant-loop-candidate
invariant-loop-candidate l =
    l.values.items ++ map (as_value l.before (printed l.argument)) (into_iter_items l.candidate-iterator)
    ≡ map (as_value l.before (printed l.argument)) l.fn.found.items
