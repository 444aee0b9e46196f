use Rattle.std.proofs.Common.{◌≡◌, ◌-◌, drop}
use Rattle.std.specs.Fmt.{char_count}
use Rattle.cc_replies.proofs.columns.left_after.Given as goal

-- the remaining bytes take what is left to what is left after the text
abbrev pub invariant-loop-byte : goal.invariant-loop-byte
invariant-loop-byte l = l.remaining - char_count (drop l.byte-index l.byte-items)
    ≡ l.left - char_count l.byte-items
