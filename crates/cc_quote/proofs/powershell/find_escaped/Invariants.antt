use Rattle.cc_quote.proofs.PowershellSearch.{AreLeft}
use Rattle.cc_quote.proofs.powershell.find_escaped.Given as goal

abbrev pub invariant-loop-at : goal.invariant-loop-at
invariant-loop-at l = AreLeft l.text l.at-iterator
