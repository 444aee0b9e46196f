-- Words between two quotes of PowerShell. Its quotes are `'` and the four characters U+2018, U+2019,
-- U+201A and U+201B. Each of them closes what any other opened, and two quotes in a row inside mean
-- the second.
use Rattle.std.specs.Prelude.{ℕ, Bool, true, false, ◌==◌, ◌&&◌, ◌||◌, if◌then◌else◌, List, [], ◌∷◌, ◌++◌, take, drop, Option, codes}
use Rattle.cc_base.specs.Bytes.{right_quote_first, right_quote_second, single_quote}
use Rattle.cc_quote.specs.QuotedWord.{before, word_from}
use Rattle.cc_quote.specs.Signs.{Sign, quote, sign}

-- ---- the quotes

-- whether the byte is the last of the three bytes of U+2018, U+2019, U+201A or U+201B
abbrev pub is_quote_third : ℕ → Bool
is_quote_third byte = byte == 152 || byte == 153 || byte == 154 || byte == 155

-- whether a text begins with the second and the third byte of such a quote
abbrev pub begins_quote_second : List ℕ → Bool
begins_quote_second (second ∷ third ∷ _) = second == right_quote_second && is_quote_third third
begins_quote_second _ = false

-- whether a byte begins such a quote, given the text after it
abbrev pub begins_curved : ℕ → List ℕ → Bool
begins_curved byte rest = byte == right_quote_first && begins_quote_second rest

-- whether a byte begins any of the five quotes, given the text after it
abbrev pub begins_any_quote : ℕ → List ℕ → Bool
begins_any_quote byte rest = byte == single_quote || begins_curved byte rest

-- ---- the text

-- the text that is written before a byte: a `'` if a quote begins there
unfoldable pub before_byte : ℕ → List ℕ → List ℕ
before_byte byte rest = if begins_any_quote byte rest then codes "'" else []

-- a text as it is written between two quotes: a `'` comes before each quote
unfoldable pub all_escaped : List ℕ → List ℕ
all_escaped [] = []
all_escaped (byte ∷ rest) = (before_byte byte rest ++ byte ∷ []) ++ all_escaped rest

-- ---- how it is read

-- the signs of a byte and of the text after it; if the byte begins a quote of three bytes, the next
-- two bytes belong to it
unfoldable pub sign_with : Bool → ℕ → List ℕ → List Sign → List Sign
sign_with false byte rest signs = sign byte ∷ signs
sign_with true byte rest signs = quote (byte ∷ take 2 rest) ∷ drop 2 signs

-- the signs of a text
unfoldable pub all_signs : List ℕ → List Sign
all_signs [] = []
all_signs (byte ∷ rest) = sign_with (begins_curved byte rest) byte rest (all_signs rest)

-- the word with which a text begins, and the rest
abbrev pub all_quotes_word_of : List ℕ → Option (List ℕ × List ℕ)
all_quotes_word_of text = word_from before (all_signs text)
