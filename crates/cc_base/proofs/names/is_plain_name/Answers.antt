use Rattle.std.proofs.Common.{rules}
use Rattle.cc_base.proofs.PlainNames.{plain_after-failed, plain_after-passed, plain_after-done}
use Rattle.cc_base.proofs.names.is_plain_name.Goals as goal

pub returns-then-not-may_follow : goal.returns-then-not-may_follow
returns-then-not-may_follow c =
    plain_after-failed c.loop-byte.after_letter c.as_bytes-byte-items.result.now c.loop-byte.byte-index _
    c.loop-byte-test.true c.loop-byte.invariant (search rules)

pub loop-byte-preserved : goal.loop-byte-preserved
loop-byte-preserved c =
    rw c.is_ascii_alphanumeric-after_letter.ensures.value
    (plain_after-passed c.loop-byte.after_letter c.as_bytes-byte-items.result.now c.loop-byte.byte-index _
    c.loop-byte-test.true c.loop-byte.invariant (search rules))

pub returns : goal.returns
returns c =
    plain_after-done c.loop-byte.after_letter c.as_bytes-byte-items.result.now c.loop-byte.byte-index _
    c.loop-byte-test.false c.loop-byte.invariant
