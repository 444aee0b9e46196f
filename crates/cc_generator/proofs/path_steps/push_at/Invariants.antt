use Rattle.std.proofs.Common.{◌≡◌, ◌++◌}
use Rattle.std.specs.Vec.Iter.{into_iter_items}
use Rattle.cc_generator.specs.StepStack.{entries_at}
use Rattle.cc_generator.proofs.path_steps.push_at.Given as goal

-- the items so far and those of the remaining keys make up the whole
abbrev pub invariant-loop-key : goal.invariant-loop-key
invariant-loop-key l = l.items.items ++ entries_at l.above l.number (into_iter_items l.key-iterator) ≡ l.fn.items.items ++ entries_at l.above l.number l.fn.keys.items
