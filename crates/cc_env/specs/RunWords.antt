-- The words of a command, as they are written for a registration to run.
use Rattle.std.specs.Prelude.{◌≡◌, ◌==◌, ℕ, true, false, List, [], ◌∷◌, ◌++◌}
use Rattle.std.specs.List.{flat_map}
use Rattle.cc_arg.specs.ValueSources.{is_runnable, vertical_tab}

-- each word, ended by a vertical tab
abbrev pub written_word : List ℕ → List ℕ
written_word word = word ++ vertical_tab ∷ []

abbrev pub written_words : List (List ℕ) → List ℕ
written_words words = flat_map written_word words

-- the words that a text has after the bytes of one that has begun; each vertical tab ends a word
abbrev pub words_from : List ℕ → List ℕ → List (List ℕ)
words_from begun [] = []
words_from begun (byte ∷ text) = elim (byte == vertical_tab) [
  | true ↦ begun ∷ words_from [] text
  | false ↦ words_from (begun ++ byte ∷ []) text
]

-- the words that a registration reads in a text
abbrev pub words_read : List ℕ → List (List ℕ)
words_read text = words_from [] text

-- words that can run are read back
abbrev pub ReadBack : List (List ℕ) → Type 0
ReadBack words = is_runnable words ≡ true → words_read (written_words words) ≡ words
