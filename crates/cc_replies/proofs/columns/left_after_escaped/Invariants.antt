use Rattle.std.proofs.Common.{◌≡◌, ◌-◌, drop}
use Rattle.std.specs.Fmt.{char_count}
use Rattle.cc_quote.specs.Escapes.{escaped_by}
use Rattle.cc_replies.proofs.columns.left_after_escaped.Given as goal

-- the remaining bytes take what is left to what is left after the text
abbrev pub invariant-loop-byte : goal.invariant-loop-byte
invariant-loop-byte g l =
    l.remaining - char_count (escaped_by (g.E.ByteEscape.escapes l.escape) (g.E.ByteEscape.replacement l.escape) (drop l.byte-index l.byte-items))
    ≡ l.left - char_count (escaped_by (g.E.ByteEscape.escapes l.escape) (g.E.ByteEscape.replacement l.escape) l.byte-items)
