use Rattle.std.proofs.Common.{◌≡◌, drop}
use Rattle.cc_replies.specs.SafeValues.{begins_control}
use Rattle.cc_replies.specs.SafeValues.{is_found}
use Rattle.cc_replies.proofs.safe.has_control.Given as goal

-- a control character begins at one of the remaining bytes exactly if one begins anywhere
abbrev pub invariant-loop-at : goal.invariant-loop-at
invariant-loop-at l = is_found begins_control (drop l.at l.text) ≡ is_found begins_control l.text
