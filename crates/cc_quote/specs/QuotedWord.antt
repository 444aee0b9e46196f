-- A word at the start of a text, quoted or not. Within quotes, two quotes in a row mean the
-- second.
use Rattle.std.specs.Prelude.{◌≡◌, ◌≢◌, ◌⊎◌, ℕ, ◌<◌, ◌==◌, if◌then◌else◌, true, List, [], ◌∷◌, ◌++◌, map, flat_map, length, Option, Some, None}
use Rattle.std.specs.Borrow.{Bor}
use Rattle.std.specs.Str.{NoCharPasses}
use Rattle.std.specs.String.{string_bytes}
use Rattle.std.specs.declared.string.String.{String}
use Rattle.cc_base.specs.Bytes.{line_feed, space, is_blank}
use Rattle.cc_quote.specs.Signs.{Sign, blank, quote, other, bytes, sign, HasNoQuote}

-- the state of a reader, with the word so far: before the word, in a bare one, in a quoted one, or
-- after a quote that closes the word unless another quote follows
pub data QuoteState : Type 0 where
  before : QuoteState
  bare : List ℕ → QuoteState
  quoted : List ℕ → QuoteState
  after_quote : List ℕ → QuoteState

-- The word and the rest. A word that begins with a quote ends at the quote that closes it, and two
-- quotes in a row inside it mean the second. Any other word ends before the first whitespace,
-- and a quote in it is an ordinary character. The result is `None` at whitespace, at the end, and
-- if a quote is not closed.
abbrev pub word_from : QuoteState → List Sign → Option (List ℕ × List ℕ)
word_from before [] = None
word_from before (quote _ ∷ rest) = word_from (quoted []) rest
word_from before (blank _ ∷ _) = None
word_from before (other run ∷ rest) = word_from (bare run) rest
word_from (bare word) [] = Some (word, [])
word_from (bare word) (quote run ∷ rest) = word_from (bare (word ++ run)) rest
word_from (bare word) (blank run ∷ rest) = Some (word, run ++ flat_map bytes rest)
word_from (bare word) (other run ∷ rest) = word_from (bare (word ++ run)) rest
word_from (quoted _) [] = None
word_from (quoted word) (quote _ ∷ rest) = word_from (after_quote word) rest
word_from (quoted word) (blank run ∷ rest) = word_from (quoted (word ++ run)) rest
word_from (quoted word) (other run ∷ rest) = word_from (quoted (word ++ run)) rest
word_from (after_quote word) [] = Some (word, [])
word_from (after_quote word) (quote run ∷ rest) = word_from (quoted (word ++ run)) rest
word_from (after_quote word) (blank run ∷ rest) = Some (word, run ++ flat_map bytes rest)
word_from (after_quote word) (other run ∷ rest) = Some (word, run ++ flat_map bytes rest)

-- a byte, or a space for a line feed
abbrev pub space_for_line_feed : ℕ → ℕ
space_for_line_feed byte = if byte == line_feed then space else byte

-- a text with a space for each line feed
abbrev pub line_feeds_as_spaces : List ℕ → List ℕ
line_feeds_as_spaces text = map space_for_line_feed text

-- `front` is the text before its first whitespace, and `back` is the rest
pub record IsCutAtBlank (text front back : List ℕ) : Type 0 where
  pub whole : text ≡ front ++ back
  pub no_blank : NoCharPasses is_blank front
  pub ends :
      (back ≡ []) ⊎ ((byte : ℕ) × (after : List ℕ) × (is_blank byte ≡ true) × (back ≡ byte ∷ after))

-- a word that is not quoted, and the rest; `None` if the text is empty or begins with whitespace
abbrev pub IsBareRead : List ℕ → Option (List ℕ × List ℕ) → Type 0
IsBareRead text None = IsCutAtBlank text [] text
IsBareRead text (Some (word, rest)) = IsCutAtBlank text word rest × (word ≢ [])

-- the contents of what a reader returns
abbrev pub contents : {A : Type 0} → Option (String A × Bor (List ℕ)) → Option (List ℕ × List ℕ)
contents None = None
contents (Some (word, rest)) = Some (string_bytes word, rest.now)

-- ---- a text by its signs, which `signs` returns

-- the text holds no quote
pub record IsWithoutQuotes (signs : List ℕ → List Sign) (text : List ℕ) : Type 0 where
  pub signs_are : signs text ≡ map sign text
  pub no_quote : HasNoQuote text

-- the text begins with a run without quotes, then comes a quote, and then the rest
pub record IsCutAtQuote (signs : List ℕ → List Sign) (text run opening rest : List ℕ) : Type 0 where
  pub signs_are : signs text ≡ map sign run ++ quote opening ∷ signs rest
  pub no_quote : HasNoQuote run
  pub shorter : length rest < length text

-- the text begins with a quote, and the rest follows it
pub record BeginsWithQuote (signs : List ℕ → List Sign) (text opening rest : List ℕ) : Type 0 where
  pub whole : text ≡ opening ++ rest
  pub signs_are : signs text ≡ quote opening ∷ signs rest

-- the text does not begin with a quote
abbrev pub BeginsWithNoQuote : (List ℕ → List Sign) → List ℕ → Type 0
BeginsWithNoQuote signs text =
    (opening : List ℕ) (rest : List Sign) → signs text ≢ quote opening ∷ rest
