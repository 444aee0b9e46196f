-- Names in a registration.
use Rattle.std.specs.Prelude.{ℕ, suc, zero, Bool, false, not, ◌&&◌, ◌||◌, ◌==◌, if◌then◌else◌, List, [], ◌∷◌, ◌++◌, map, length, Option, Some, None, option_map, codes}
use Rattle.std.specs.Char.{is_ascii_alphanumeric, is_ascii_digit}
use Rattle.std.specs.List.{list_all}
use Rattle.std.specs.Option.{option_and_then}
use Rattle.cc_base.specs.Bytes.{dash, single_quote, underscore}
use Rattle.cc_base.specs.Found.{after}
use Rattle.cc_quote.specs.Escapes.{replace_byte}
use Rattle.cc_registrations.specs.AllQuotes.{all_escaped}

-- a name with `_` for each `-`
abbrev pub underscored : List ℕ → List ℕ
underscored name = replace_byte dash (codes "_") name

-- ---- identifiers

-- whether a byte may occur in an identifier: an ASCII letter, a digit or `_`
unfoldable pub is_identifier_byte : ℕ → Bool
is_identifier_byte byte = is_ascii_alphanumeric byte || byte == underscore

-- the byte of an identifier for a byte: `_` if the byte may not occur in identifiers
unfoldable pub identifier_byte : ℕ → ℕ
identifier_byte byte = if is_identifier_byte byte then byte else underscore

-- the text before the bytes: `_` if the text is empty or begins with a digit
unfoldable pub identifier_front : List ℕ → List ℕ
identifier_front [] = codes "_"
identifier_front (byte ∷ _) = if is_ascii_digit byte then codes "_" else []

-- a text as an identifier
abbrev pub identifier : List ℕ → List ℕ
identifier text = identifier_front text ++ map identifier_byte text

-- whether a text is an identifier: it is not empty, does not begin with a digit, and has only such
-- bytes
unfoldable pub is_identifier : List ℕ → Bool
is_identifier [] = false
is_identifier (byte ∷ text) =
    not (is_ascii_digit byte) && list_all is_identifier_byte (byte ∷ text)

-- a text, if it is an identifier
unfoldable pub if_identifier : List ℕ → Option (List ℕ)
if_identifier text = if is_identifier text then Some text else None

-- ---- names one after another

-- a text between two `'`, for Elvish: `''` for each `'`
unfoldable pub elvish_quoted : List ℕ → List ℕ
elvish_quoted text = codes "'" ++ replace_byte single_quote (codes "''") text ++ codes "'"

-- the same for PowerShell: a `'` before each quote
unfoldable pub powershell_quoted : List ℕ → List ℕ
powershell_quoted text = codes "'" ++ all_escaped text ++ codes "'"

-- some words, with one more word before them
abbrev pub with_word : List ℕ → Option (List (List ℕ) × List ℕ) → Option (List (List ℕ) × List ℕ)
with_word word found = option_map (λ listed. (word ∷ listed.0, listed.1)) found

-- The words with which a text begins, with a separator between each two, and the text after them. A
-- reader reads each word. At most the given number of words is read.
abbrev pub words_by : (List ℕ → Option (List ℕ × List ℕ)) → List ℕ → ℕ → List ℕ
    → Option (List (List ℕ) × List ℕ)
words_by reader between zero text = None
words_by reader between (suc most) text = elim (reader text) [
  | None ↦ Some ([], text)
  | Some read ↦ elim (after between read.1) [
    | Some rest ↦ with_word read.0 (words_by reader between most rest)
    | None ↦ Some (read.0 ∷ [], read.1)
  ]
]

-- the same for all words of a text
abbrev pub listed_by : (List ℕ → Option (List ℕ × List ℕ)) → List ℕ → List ℕ
    → Option (List (List ℕ) × List ℕ)
listed_by reader between text = words_by reader between (length text) text

-- some words that end at a mark, and the text after the mark
abbrev pub ending_at : List ℕ → List (List ℕ) × List ℕ → Option (List (List ℕ) × List ℕ)
ending_at mark listed = option_map (λ rest. (listed.0, rest)) (after mark listed.1)

-- a word and the rest, if the rest begins with a space
abbrev pub spaced : List ℕ × List ℕ → Option (List ℕ × List ℕ)
spaced read = elim (after (codes " ") read.1) [ Some _ ↦ Some read | None ↦ None ]

-- the word with which a text begins, if a space follows it
abbrev pub before_space : (List ℕ → Option (List ℕ × List ℕ)) → List ℕ → Option (List ℕ × List ℕ)
before_space reader text = option_and_then spaced (reader text)

-- the word with which a text begins, if it begins with `'`
abbrev pub quoted_by : (List ℕ → Option (List ℕ × List ℕ)) → List ℕ → Option (List ℕ × List ℕ)
quoted_by reader [] = None
quoted_by reader (byte ∷ text) = if byte == single_quote then reader (byte ∷ text) else None
