use Rattle.std.proofs.Common.{◌≡◌, ◌++◌}
use Rattle.cc_generator.specs.Flat.{children_at, numbers_between}
use Rattle.cc_generator.specs.TableStack.{table_items}
use Rattle.cc_generator.proofs.table_visits.items_below.Given as goal

-- the items so far and those of the remaining children make up the whole
abbrev pub invariant-loop-child : goal.invariant-loop-child
invariant-loop-child l =
    l.items.items ++ table_items l.number l.keys (numbers_between l.child l.child-end) ≡ table_items l.number l.keys (children_at l.flat l.number)
