use Rattle.std.proofs.Common.{◌≡◌, drop}
use Rattle.std.specs.List.{list_all}
use Rattle.cc_engine.specs.Numbers.{is_of_numbers}
use Rattle.cc_engine.proofs.gathering.negative_numbers.are_of_numbers.Given as goal

abbrev pub invariant-loop-byte : goal.invariant-loop-byte
invariant-loop-byte l = list_all is_of_numbers (drop l.byte-index l.bytes) ≡ list_all is_of_numbers l.bytes
