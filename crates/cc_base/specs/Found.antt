-- Occurrences in a text.
use Rattle.std.specs.Prelude.{ℕ, Bool, true, false, List, [], ◌∷◌, ◌++◌, ◌==◌, Option, Some, None, option_map, if◌then◌else◌, bytes_eq, reverse}
use Rattle.std.specs.Option.{option_and_then}
use Rattle.cc_base.specs.Bytes.{line_feed, is_blank}

-- the text after a front; `None` if it does not begin with that front
unfoldable pub after : List ℕ → List ℕ → Option (List ℕ)
after [] text = Some text
after (byte ∷ front) [] = None
after (byte ∷ front) (first ∷ text) = elim (byte == first) [
  | true ↦ after front text
  | false ↦ None
]

-- the text before an ending; `None` if it does not end with that ending
unfoldable pub before_ending : List ℕ → List ℕ → Option (List ℕ)
before_ending ending text =
    option_map (λ front. reverse front) (after (reverse ending) (reverse text))

-- a cut with `front` added to the text before it
unfoldable pub with_front : List ℕ → Option (List ℕ × List ℕ) → Option (List ℕ × List ℕ)
with_front front None = None
with_front front (Some (before, rest)) = Some (front ++ before, rest)

-- the text before the first occurrence of a mark, and the text after that occurrence; `None` if the
-- mark does not occur
unfoldable pub cut_at : List ℕ → List ℕ → Option (List ℕ × List ℕ)
cut_at mark [] = None
cut_at mark (byte ∷ text) = elim (after mark (byte ∷ text)) [
  | Some rest ↦ Some ([], rest)
  | None ↦ with_front (byte ∷ []) (cut_at mark text)
]

-- the text before the first occurrence of a mark
unfoldable pub up_to : List ℕ → List ℕ → Option (List ℕ)
up_to mark text = option_map (λ cut. cut.0) (cut_at mark text)

-- the text after the first occurrence of a mark
unfoldable pub after_mark : List ℕ → List ℕ → Option (List ℕ)
after_mark mark text = option_map (λ cut. cut.1) (cut_at mark text)

-- the text between the first occurrence of one mark and the next occurrence of another
unfoldable pub between : List ℕ → List ℕ → List ℕ → Option (List ℕ)
between opening closing text = option_and_then (up_to closing) (after_mark opening text)

-- the text without the whitespace at its start
unfoldable pub without_blanks : List ℕ → List ℕ
without_blanks [] = []
without_blanks (byte ∷ text) = elim (is_blank byte) [
  | true ↦ without_blanks text
  | false ↦ byte ∷ text
]

-- the text after the last byte that passes a test; `run` is the text since such a byte so far
unfoldable pub after_last_from : (ℕ → Bool) → List ℕ → List ℕ → List ℕ
after_last_from passes run [] = run
after_last_from passes run (byte ∷ text) = elim (passes byte) [
  | true ↦ after_last_from passes [] text
  | false ↦ after_last_from passes (run ++ byte ∷ []) text
]

-- the last line of a text
unfoldable pub last_line : List ℕ → List ℕ
last_line text = after_last_from (λ byte. byte == line_feed) [] text

-- the end of a text, after its last whitespace
unfoldable pub last_run : List ℕ → List ℕ
last_run text = after_last_from is_blank [] text

-- the word that a reader finds after whitespace
unfoldable pub word_by : (List ℕ → Option (List ℕ × List ℕ)) → List ℕ → Option (List ℕ)
word_by reader text = option_map (λ read. read.0) (reader (without_blanks text))

-- the word that a reader finds after the first occurrence of a mark
unfoldable pub word_after : (List ℕ → Option (List ℕ × List ℕ)) → List ℕ → List ℕ → Option (List ℕ)
word_after reader mark text = option_and_then (word_by reader) (after_mark mark text)

-- the pieces of a text between the occurrences of a byte; the first continues `piece`
abbrev pub pieces_from : ℕ → List ℕ → List ℕ → List (List ℕ)
pieces_from separator piece [] = piece ∷ []
pieces_from separator piece (byte ∷ text) = elim (byte == separator) [
  | true ↦ piece ∷ pieces_from separator [] text
  | false ↦ pieces_from separator (piece ++ byte ∷ []) text
]

-- ---- words between whitespace

-- a word followed by others; it is left out if it is empty
unfoldable pub ended : List ℕ → List (List ℕ) → List (List ℕ)
ended [] words = words
ended (byte ∷ word) words = (byte ∷ word) ∷ words

-- the words of a text; the first continues `word`
unfoldable pub words_from : List ℕ → List ℕ → List (List ℕ)
words_from word [] = ended word []
words_from word (byte ∷ text) = elim (is_blank byte) [
  | true ↦ ended word (words_from [] text)
  | false ↦ words_from (word ++ byte ∷ []) text
]

-- the word before the last one; `None` unless the last one is `last`
unfoldable pub before_last : List ℕ → List (List ℕ) → Option (List ℕ)
before_last last [] = None
before_last last (word ∷ []) = None
before_last last (word ∷ next ∷ []) = if bytes_eq next last then Some word else None
before_last last (word ∷ next ∷ third ∷ words) = before_last last (next ∷ third ∷ words)
