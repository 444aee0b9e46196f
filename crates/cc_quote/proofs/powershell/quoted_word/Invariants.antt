use Rattle.std.proofs.Common.{◌≡◌, [], length, string_bytes}
use denote.Text.{Utf8}
use denote.Shadow.{shadow}
use Rattle.cc_quote.specs.PowershellQuote.{powershell_signs}
use Rattle.cc_quote.specs.QuotedWord.{quoted, word_from}
use Rattle.cc_quote.proofs.powershell.quoted_word.Given as goal

abbrev pub invariant-loop-piece : goal.invariant-loop-piece
invariant-loop-piece l = record {
  is_text : shadow (Utf8 l.rest);
  same : word_from (quoted (string_bytes l.word)) (powershell_signs l.rest) ≡ word_from (quoted []) (powershell_signs l.text);
}

abbrev pub decreases-loop-piece : goal.decreases-loop-piece
decreases-loop-piece l = length l.rest
