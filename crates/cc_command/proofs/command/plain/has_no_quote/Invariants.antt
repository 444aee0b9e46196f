use Rattle.std.proofs.Common.{◌≡◌, drop}
use Rattle.cc_command.specs.Plain.{has_no_quote}
use Rattle.cc_command.proofs.command.plain.has_no_quote.Given as goal

-- none of the visited bytes is a quote
abbrev pub invariant-loop-byte : goal.invariant-loop-byte
invariant-loop-byte l = has_no_quote (drop l.byte-index l.byte-items) ≡ has_no_quote l.byte-items
