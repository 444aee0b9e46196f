use Rattle.std.proofs.Common.{sym}
use Rattle.cc_quote.specs.PowershellQuote.{powershell_signs}
use Rattle.cc_quote.specs.QuotedWord.{contents}
use Rattle.cc_quote.proofs.PowershellSigns.{powershell_signs_are}
use Rattle.cc_quote.proofs.WordReading.{bare_word}
use Rattle.cc_quote.proofs.powershell.powershell_word.Goals as goal

pub returns-in_ok-bare_word-in-None-clause-word : goal.returns-in_ok-bare_word-in-None-clause-word
returns-in_ok-bare_word-in-None-clause-word c =
    sym (bare_word powershell_signs powershell_signs_are c.args.text.now (contents c.in_ok-bare_word-in-None.field-0) c.in_ok-bare_word-in-None.ensures c.in-None.ensures)
