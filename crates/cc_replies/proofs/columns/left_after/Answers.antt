use Rattle.std.proofs.Common.{ap, arith}
use Rattle.std.specs.Fmt.{char_count}
use Rattle.cc_replies.proofs.Characters.{char_count_end, char_count_next}
use Rattle.cc_replies.proofs.columns.left_after.Goals as goal

pub loop-byte-preserved : goal.loop-byte-preserved
loop-byte-preserved c =
    let next = char_count_next c.as_bytes-byte-items.result.now c.loop-byte.byte-index c.loop-byte-test.true in
    omega (arith, next, c.starts.ensures, c.saturating_sub-remaining.ensures, c.loop-byte.invariant)

pub returns : goal.returns
returns c =
    let none = char_count_end c.as_bytes-byte-items.result.now c.loop-byte.byte-index c.loop-byte-test.false in
    omega (arith, none, c.loop-byte.invariant, ap char_count c.as_bytes-byte-items.ensures.value)
