use Rattle.std.proofs.Common.{◌≡◌, drop}
use Rattle.cc_replies.specs.SafeReplies.{begins_raw}
use Rattle.cc_replies.specs.SafeValues.{is_found}
use Rattle.cc_replies.proofs.safe_replies.has_raw.Given as goal

-- such a character begins at one of the remaining bytes exactly if one begins anywhere
abbrev pub invariant-loop-at : goal.invariant-loop-at
invariant-loop-at l = is_found begins_raw (drop l.at l.text) ≡ is_found begins_raw l.text
