use Rattle.std.proofs.Common.{◌≡◌, drop}
use Rattle.cc_replies.specs.Reply.{is_without}
use Rattle.cc_replies.proofs.readable.is_without.Given as goal

abbrev pub invariant-loop-byte : goal.invariant-loop-byte
invariant-loop-byte l =
    is_without l.special (drop l.byte-index l.byte-items) ≡ is_without l.special l.byte-items
