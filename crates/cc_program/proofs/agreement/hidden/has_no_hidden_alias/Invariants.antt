use Rattle.std.proofs.Common.{◌≡◌, drop, map, string_bytes}
use Rattle.cc_engine.specs.Visible.{has_no_hidden_alias}
use Rattle.cc_program.proofs.agreement.hidden.has_no_hidden_alias.Given as goal

-- The words so far are not hidden aliases: the result for all words is the result for the remaining
-- words at the reached command.
abbrev pub invariant-loop-word : goal.invariant-loop-word
invariant-loop-word l =
    has_no_hidden_alias l.reached (map string_bytes (drop l.word-index l.words))
    ≡ has_no_hidden_alias l.command (map string_bytes l.words)
