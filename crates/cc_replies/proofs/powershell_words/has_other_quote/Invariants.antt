use Rattle.std.proofs.Common.{◌≡◌, drop}
use Rattle.cc_replies.specs.PowershellWords.{begins_other_quote}
use Rattle.cc_replies.specs.SafeValues.{is_found}
use Rattle.cc_replies.proofs.powershell_words.has_other_quote.Given as goal

-- a quote begins at one of the remaining bytes exactly if one begins anywhere
abbrev pub invariant-loop-at : goal.invariant-loop-at
invariant-loop-at l = is_found begins_other_quote (drop l.at l.text) ≡ is_found begins_other_quote l.text
