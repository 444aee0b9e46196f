-- The words of a command are read back.
use Rattle.std.proofs.Common.{◌≡◌, ◌∙◌, ◌==◌, ap, refl, sym, ℕ, Bool, true, false, not, List, [], ◌∷◌, ◌++◌, append_assoc}
use Rattle.std.proofs.lemmas.Bool.{and_parts, or_parts}
use Rattle.std.proofs.lemmas.List.{append-nil}
use Rattle.std.specs.List.{list_all}
use Rattle.cc_arg.specs.ValueSources.{has_byte, is_program, is_whole_word, nul, vertical_tab}
use Rattle.cc_env.specs.RunWords.{ReadBack, words_from, written_words}

-- a word without a vertical tab ends at the next one
word_on : (begun word rest : List ℕ) → has_byte vertical_tab word ≡ false
    → words_from begun (word ++ vertical_tab ∷ rest) ≡ (begun ++ word) ∷ words_from [] rest
word_on begun [] rest h = ap (λ first. first ∷ words_from [] rest) (sym (append-nil begun))
word_on begun (byte ∷ word) rest h =
    let parts = or_parts (byte == vertical_tab) (has_byte vertical_tab word) h in
    rw (words_from, parts.0) (word_on (begun ++ byte ∷ []) word rest parts.1
    ∙ ap (λ first. first ∷ words_from [] rest) (append_assoc begun (byte ∷ []) word))

not_true : (b : Bool) → not b ≡ true → b ≡ false
not_true true h = sym h
not_true false h = refl

-- a whole word has none
whole_without : (word : List ℕ) → is_whole_word word ≡ true → has_byte vertical_tab word ≡ false
whole_without word h =
    (or_parts (has_byte nul word) (has_byte vertical_tab word)
    (not_true _ h)).1

all_back : (words : List (List ℕ)) → list_all is_whole_word words ≡ true
    → words_from [] (written_words words) ≡ words
all_back [] h = refl
all_back (word ∷ words) h =
    let parts = and_parts (is_whole_word word) (list_all is_whole_word words) h in
    ap (words_from []) (append_assoc word (vertical_tab ∷ []) (written_words words))
    ∙ word_on [] word (written_words words) (whole_without word parts.0)
    ∙ ap (λ rest. word ∷ rest) (all_back words parts.1)

pub words_back : (words : List (List ℕ)) → ReadBack words
words_back [] h = refl
words_back (program ∷ arguments) h =
    all_back (program ∷ arguments)
    (and_parts (is_program program) (list_all is_whole_word (program ∷ arguments)) h).1
