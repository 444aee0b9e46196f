use Rattle.std.proofs.Common.{◌≡◌, ◌++◌, drop}
use Rattle.cc_generator.specs.TableStack.{items_at}
use Rattle.cc_generator.proofs.table_visits.push_shared.Given as goal

-- the items so far and those of the remaining keys make up the whole
abbrev pub invariant-loop-key : goal.invariant-loop-key
invariant-loop-key l = l.items.items ++ items_at l.above l.number (drop l.key-index l.keys) ≡ l.initial.items.items ++ items_at l.above l.number l.keys
