use Rattle.std.proofs.Common.{◌≡◌, ◌≤◌, ◌==◌, take}
use Rattle.std.specs.List.{count_by}
use Rattle.cc_engine.proofs.gathering.negative_numbers.has_at_most_one.Given as goal

abbrev pub invariant-loop-byte : goal.invariant-loop-byte
invariant-loop-byte l = (l.count ≡ count_by (λ byte. byte == l.wanted) (take l.byte-index l.bytes)) × (l.count ≤ l.byte-index)
