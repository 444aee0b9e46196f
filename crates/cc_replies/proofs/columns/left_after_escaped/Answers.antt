use Rattle.std.proofs.Common.{ap, arith}
use Rattle.std.specs.Fmt.{char_count}
use Rattle.cc_quote.specs.Escapes.{escaped_by}
use Rattle.cc_replies.proofs.Characters.{escaped_end, escaped_next}
use Rattle.cc_replies.proofs.columns.left_after_escaped.Goals as goal

pub loop-byte-preserved : goal.loop-byte-preserved
loop-byte-preserved g c =
    let next = escaped_next (g.E.ByteEscape.escapes c.args.escape.now) (g.E.ByteEscape.replacement c.args.escape.now)
    c.as_bytes-byte-items.result.now c.loop-byte.byte-index c.loop-byte-test.true in
    omega (arith, next, c.left_after_byte-remaining.ensures, c.loop-byte.invariant)

pub returns : goal.returns
returns g c =
    let escapes = g.E.ByteEscape.escapes c.args.escape.now in
    let replacement = g.E.ByteEscape.replacement c.args.escape.now in
    let none = escaped_end escapes replacement c.as_bytes-byte-items.result.now c.loop-byte.byte-index c.loop-byte-test.false in
    omega (
      arith,
      none,
      c.loop-byte.invariant,
      ap (λ t. char_count (escaped_by escapes replacement t)) c.as_bytes-byte-items.ensures.value,
    )
