-- The tokens of an Elvish script, by its bytes.
use Rattle.std.specs.Prelude.{ℕ, Bool, not, ◌||◌, List, [], ◌==◌, map, IsTrue, ◌≢◌}
use Rattle.std.specs.List.{AllByRecursion}
use Rattle.cc_base.specs.Bytes.{single_quote, is_blank}
use Rattle.cc_quote.specs.Signs.{sign}
use Rattle.cc_quote.specs.Tokens.{Token, cut}
use Rattle.cc_quote.specs.Tokens.QuoteState.{between}

-- the tokens of a script
unfoldable pub elvish_tokens : List ℕ → List Token
elvish_tokens script = cut between (map sign script)

-- whether a byte outside quotes neither ends a token nor opens quotes
unfoldable pub is_bare : ℕ → Bool
is_bare byte = not (byte == single_quote || is_blank byte)

-- every byte is bare
abbrev pub IsBare : List ℕ → Type 0
IsBare text = AllByRecursion (λ byte. IsTrue (is_bare byte)) text

-- a text that is one bare word
abbrev pub IsBareWord : List ℕ → Type 0
IsBareWord text = (text ≢ []) × IsBare text
