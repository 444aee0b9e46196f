use Rattle.memchr.specs.Find.{Nowhere, Passes}
use Rattle.cc_quote.proofs.escape.ByteEscape.find.Given as goal

-- no byte before the index is escaped
abbrev pub invariant-loop-at : goal.invariant-loop-at
invariant-loop-at g l = Nowhere (Passes (g.Self.ByteEscape.escapes l.self) l.bytes) 0 l.at
