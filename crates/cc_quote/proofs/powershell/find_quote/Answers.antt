use Rattle.std.proofs.Common.{◌∙◌, sym, arith}
use Rattle.cc_quote.proofs.PowershellWords.{no_quote_before, without_quotes}
use Rattle.cc_quote.proofs.powershell.find_quote.Goals as goal

pub loop-at-preserved : goal.loop-at-preserved
loop-at-preserved c =
    no_quote_before c.args.text.now c.loop-at.at c.loop-at-test.true c.loop-at.invariant (sym c.begins_quote_at.ensures ∙ c.if-begins_quote_at.false)

pub returns : goal.returns
returns c = without_quotes c.args.text.now c.loop-at.at (omega arith) c.loop-at.invariant
