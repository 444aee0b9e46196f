use Rattle.std.proofs.Common.{◌≡◌, ◌+◌, ◌++◌, drop, take}
use Rattle.std.specs.Fmt.{char_count, take_chars}
use Rattle.cc_replies.proofs.columns.end_of.Given as goal

-- the bytes so far and the characters that are left to take are the first ones of the text
abbrev pub invariant-loop-at : goal.invariant-loop-at
invariant-loop-at l = record {
  taken : take l.at l.bytes ++ take_chars l.left (drop l.at l.bytes) ≡ take_chars l.count l.bytes;
  counted : char_count (drop l.at l.bytes) + l.count ≡ char_count l.bytes + l.left;
}
