use Rattle.std.proofs.Common.{◌≡◌, ◌^◌, ◌<◌, drop}
use Rattle.std.specs.Str.Parse.{AllDigits, digits_value, digits_value_after}
use Rattle.complgen_tree_file.proofs.json_values.number.short_whole.Given as goal

-- the digits that are left go on with the number so far
abbrev pub invariant-loop-byte : goal.invariant-loop-byte
invariant-loop-byte l = record {
  value : digits_value_after 10 l.number (drop l.byte-index l.bytes) ≡ digits_value 10 l.bytes;
  digits : AllDigits 10 (drop l.byte-index l.bytes) → AllDigits 10 l.bytes;
  bound : l.number < 10 ^ l.byte-index;
}
