use Rattle.std.proofs.Common.{◌≡◌, drop}
use Rattle.std.specs.List.{list_any}
use Rattle.cc_engine.specs.Numbers.{is_point}
use Rattle.cc_engine.proofs.gathering.negative_numbers.has_point.Given as goal

abbrev pub invariant-loop-byte : goal.invariant-loop-byte
invariant-loop-byte l = list_any is_point (drop l.byte-index l.bytes) ≡ list_any is_point l.bytes
