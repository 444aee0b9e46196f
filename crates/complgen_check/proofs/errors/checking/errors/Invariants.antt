use Rattle.std.proofs.Common.{◌≡◌, ◌+◌, All, length, map}
use Rattle.std.specs.Vec.Iter.{into_iter_items}
use Rattle.complgen_check.specs.Findings.{IsError, shown}
use Rattle.complgen_check.proofs.errors.checking.errors.Given as goal

-- with the faults that are left there are as many as there were
abbrev pub invariant-loop-fault : goal.invariant-loop-fault
invariant-loop-fault l = record {
  count : length l.errors.items + length (into_iter_items l.fault-iterator) ≡ length l.fn.faults.items;
  errors : All IsError (map shown l.errors.items);
}
