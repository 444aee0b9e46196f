-- Words in which each byte outside quotes means itself. A shell replaces other bytes there, or
-- ends the word or the command at them, so these readers refuse a word with such a byte.
use Rattle.std.specs.Prelude.{ℕ, Bool, true, false, ◌||◌, ◌==◌, if◌then◌else◌, List, [], ◌∷◌, Option, Some, None, codes}
use Rattle.std.specs.Char.{is_ascii_alphanumeric}
use Rattle.std.specs.List.{list_any}
use Rattle.cc_base.specs.Bytes.{backslash, is_blank, single_quote}
use Rattle.cc_quote.specs.FishQuote.{fish_word_of}
use Rattle.cc_quote.specs.PosixQuote.{posix_word_of}

-- the place of a byte in a word: outside quotes, between two `'`, or after a backslash
pub data Place : Type 0 where
  outside : Place
  quoted : Place
  escaped : Place

-- the word ends before the byte
abbrev pub ends_word : Place → ℕ → Bool
ends_word outside byte = is_blank byte
ends_word _ byte = false

-- Each byte of the word with which a text begins is allowed at its place. `next` leads from a
-- byte's place to the next byte's place, and to `None` if the byte is not allowed there.
unfoldable pub is_plain_from : (Place → ℕ → Option Place) → Place → List ℕ → Bool
is_plain_from next place [] = true
is_plain_from next place (byte ∷ text) = elim (ends_word place byte) [
  | true ↦ true
  | false ↦ elim (next place byte) [
    | Some following ↦ is_plain_from next following text
    | None ↦ false
  ]
]

-- what is read, if the test passed
abbrev pub read_if : Bool → Option (List ℕ × List ℕ) → Option (List ℕ × List ℕ)
read_if true read = read
read_if false read = None

-- ---- bash and zsh

-- outside quotes: an ASCII letter, a digit, or one of these
unfoldable pub is_posix_plain : ℕ → Bool
is_posix_plain byte =
    is_ascii_alphanumeric byte || list_any (λ plain. byte == plain) (codes "+-./:@_")

-- a `'`, a backslash that a `'` follows, or such a byte; between two `'` any byte
unfoldable pub posix_next_place : Place → ℕ → Option Place
posix_next_place outside byte =
    if byte == single_quote then Some quoted
    else (if byte == backslash then Some escaped
    else (if is_posix_plain byte then Some outside else None))
posix_next_place quoted byte = if byte == single_quote then Some outside else Some quoted
posix_next_place escaped byte = if byte == single_quote then Some outside else None

-- the word with which a text begins, and the rest
unfoldable pub posix_plain_word : List ℕ → Option (List ℕ × List ℕ)
posix_plain_word text = read_if (is_plain_from posix_next_place outside text) (posix_word_of text)

-- ---- fish

-- outside quotes: an ASCII letter, a digit, or one of these
unfoldable pub is_fish_plain : ℕ → Bool
is_fish_plain byte =
    is_ascii_alphanumeric byte || list_any (λ plain. byte == plain) (codes "+,-./:=@_")

-- a `'` or such a byte; between two `'` any byte, and any byte after a backslash
unfoldable pub fish_next_place : Place → ℕ → Option Place
fish_next_place outside byte =
    if byte == single_quote then Some quoted
    else (if is_fish_plain byte then Some outside else None)
fish_next_place quoted byte =
    if byte == single_quote then Some outside
    else (if byte == backslash then Some escaped else Some quoted)
fish_next_place escaped byte = Some quoted

-- the word with which a text begins, and the rest
unfoldable pub fish_plain_word : List ℕ → Option (List ℕ × List ℕ)
fish_plain_word text = read_if (is_plain_from fish_next_place outside text) (fish_word_of text)
