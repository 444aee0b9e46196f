use Rattle.cc_quote.specs.PowershellQuote.{HasNoQuoteBefore}
use Rattle.cc_quote.proofs.powershell.find_quote.Given as goal

abbrev pub invariant-loop-at : goal.invariant-loop-at
invariant-loop-at l = HasNoQuoteBefore l.text l.at
