use Rattle.std.proofs.Common.{◌≡◌, length}
use Rattle.cc_command.specs.Escaped.{unescaped_quote}
use Rattle.cc_command.proofs.command.escaped.unescaped_quote.Given as goal

-- none of the visited bytes begins such a quote
abbrev pub invariant-loop-left : goal.invariant-loop-left
invariant-loop-left l = unescaped_quote l.left ≡ unescaped_quote l.text

-- the number of bytes that are left
abbrev pub decreases-loop-left : goal.decreases-loop-left
decreases-loop-left l = length l.left
