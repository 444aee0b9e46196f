-- The tokens of a PowerShell script.
use Rattle.std.specs.Prelude.{ℕ, Bool, not, ◌||◌, ◌==◌, List, IsTrue}
use Rattle.std.specs.List.{AllByRecursion}
use Rattle.cc_base.specs.Bytes.{single_quote, right_quote_first}
use Rattle.cc_quote.specs.PowershellQuote.{powershell_signs}
use Rattle.cc_quote.specs.Tokens.{Token, cut}
use Rattle.cc_quote.specs.Tokens.QuoteState.{between}

-- the tokens of a script
unfoldable pub powershell_tokens : List ℕ → List Token
powershell_tokens script = cut between (powershell_signs script)

-- whether a byte is a `'` or the first byte of U+2019
unfoldable pub is_quote_first : ℕ → Bool
is_quote_first byte = byte == single_quote || byte == right_quote_first

-- no byte begins a quote, whatever follows it
abbrev pub IsUnquoted : List ℕ → Type 0
IsUnquoted text = AllByRecursion (λ byte. IsTrue (not (is_quote_first byte))) text
