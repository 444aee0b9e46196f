-- Words as PowerShell quotes them. Quotes are `'` and U+2019, and each of them closes what the
-- other opened.
use Rattle.std.specs.Prelude.{◌≡◌, ℕ, ◌<◌, ◌+◌, Bool, true, false, ◌==◌, ◌&&◌, ◌||◌, if◌then◌else◌, List, [], ◌∷◌, ◌++◌, length, take, drop, slice_index, map, Option}
use Rattle.cc_base.specs.Bytes.{line_feed, space, single_quote, right_quote_first, right_quote_second, right_quote_third, right_quote}
use Rattle.cc_quote.specs.QuotedWord.{before, word_from}
use Rattle.cc_quote.specs.Signs.{Sign, quote, sign, HasNoQuote}

-- whether a text begins with the third byte of U+2019
abbrev pub begins_third : List ℕ → Bool
begins_third [] = false
begins_third (byte ∷ _) = byte == right_quote_third

-- whether a text begins with the second and the third byte of U+2019
abbrev pub begins_second : List ℕ → Bool
begins_second [] = false
begins_second (byte ∷ rest) = byte == right_quote_second && begins_third rest

-- whether a byte begins U+2019, given the text after it
abbrev pub begins_right_quote : ℕ → List ℕ → Bool
begins_right_quote byte rest = byte == right_quote_first && begins_second rest

-- whether a byte begins a quote, given the text after it
abbrev pub begins_quote : ℕ → List ℕ → Bool
begins_quote byte rest = byte == single_quote || begins_right_quote byte rest

-- the text that is written for a byte between two quotes: `'` is doubled, a line feed becomes a
-- space, and U+2019 follows a `'`
abbrev pub powershell_escaped_byte : ℕ → List ℕ → List ℕ
powershell_escaped_byte byte rest =
    if byte == single_quote then single_quote ∷ single_quote ∷ []
    else (if byte == line_feed then space ∷ []
    else (if begins_right_quote byte rest then single_quote ∷ byte ∷ [] else byte ∷ []))

-- a text as it is written between two quotes
abbrev pub powershell_escaped : List ℕ → List ℕ
powershell_escaped [] = []
powershell_escaped (byte ∷ rest) = powershell_escaped_byte byte rest ++ powershell_escaped rest

-- the signs of a byte and of the text after it; if the byte begins U+2019, the next two bytes
-- belong to it
unfoldable pub sign_before : Bool → ℕ → List Sign → List Sign
sign_before false byte signs = sign byte ∷ signs
sign_before true byte signs = quote right_quote ∷ drop 2 signs

-- the signs of a text: U+2019 is one quote, and any other byte has its own sign
unfoldable pub powershell_signs : List ℕ → List Sign
powershell_signs [] = []
powershell_signs (byte ∷ rest) =
    sign_before (begins_right_quote byte rest) byte (powershell_signs rest)

-- the word with which a text begins, and the rest
abbrev pub powershell_word_of : List ℕ → Option (List ℕ × List ℕ)
powershell_word_of text = word_from before (powershell_signs text)

-- ---- searches

-- whether a byte between two quotes is replaced
abbrev pub is_escaped : ℕ → List ℕ → Bool
is_escaped byte rest = byte == line_feed || begins_quote byte rest

-- `at` is the index of the first byte of a text that has a replacement
pub record IsFirstEscaped (text : List ℕ) (at : ℕ) : Type 0 where
  pub within : at < length text
  pub before : powershell_escaped text ≡ take at text ++ powershell_escaped (drop at text)
  pub here : is_escaped (slice_index text at) (drop (at + 1) text) ≡ true

-- no quote occurs in a text before an index
pub record HasNoQuoteBefore (text : List ℕ) (at : ℕ) : Type 0 where
  pub signs_are : powershell_signs text ≡ map sign (take at text) ++ powershell_signs (drop at text)
  pub no_quote : HasNoQuote (take at text)

-- `at` is the index of the first quote of a text
pub record IsFirstQuote (text : List ℕ) (at : ℕ) : Type 0 where
  pub within : at < length text
  pub before : HasNoQuoteBefore text at
  pub here : begins_quote (slice_index text at) (drop (at + 1) text) ≡ true
