-- Texts that are cut at a byte, and words that are cut at spaces.
use Rattle.std.proofs.Common.{◌≡◌, ℕ, true, false, ◌==◌, List, [], ◌∷◌, ◌++◌, Some, refl, ap, ◌∙◌, sym, append_assoc, append-nil, inl, inr, arith}
use Rattle.std.specs.List.{AllByRecursion}
use Rattle.std.proofs.lemmas.Bool.{cases_Bool}
use Rattle.std.proofs.lemmas.Bool.Decides.{nat_tests}
use Rattle.cc_base.specs.Bytes.{space}
use Rattle.cc_quote.specs.PosixSigns.{sign}
use Rattle.cc_quote.specs.PosixSigns.Sign.{blank, other}
use Rattle.cc_quote.proofs.PosixCutting.{IsOther, IsWord, IsKept, IsKept-append, IsKept-IsWord}
use Rattle.cc_bash.specs.Reader.{parted, words_from}
use Rattle.cc_bash.specs.Words.{words_after, words_text}

-- the byte does not occur in the text
abbrev pub Lacks : ℕ → List ℕ → Type 0
Lacks byte text = AllByRecursion (λ b. (b == byte) ≡ false) text

pub Lacks-append : (byte : ℕ) (text rest : List ℕ) → Lacks byte text → Lacks byte rest →
    Lacks byte (text ++ rest)
Lacks-append byte [] rest h k = k
Lacks-append byte (b ∷ text) rest h k = (h.0, Lacks-append byte text rest h.1 k)

-- a text is cut at the first occurrence of a byte
pub parted_at : (byte : ℕ) (before after : List ℕ) → Lacks byte before →
    parted byte (before ++ byte ∷ after) ≡ Some (before, after)
parted_at byte [] after h = let e : (byte == byte) ≡ true = grind (arith, nat_tests) in rw e
parted_at byte (b ∷ before) after h = let e =
    h.0 in rw e (let again = parted_at byte before after h.1 in rw again)

-- ---- words between spaces

no_space : (byte : ℕ) → sign byte ≡ other byte → (byte == space) ≡ false
unfolding sign
no_space byte h = elim (cases_Bool (byte == space)) [
  | inr f ↦ f
  | inl t ↦ let e : blank byte ≡ other byte = rw t at h in cc
]

words_run : (word rest run : List ℕ) (r : ℕ) → IsOther word →
    words_from (r ∷ run) (word ++ rest) ≡ words_from ((r ∷ run) ++ word) rest
words_run [] rest run r h = ap (λ w. words_from (r ∷ w) rest) (sym (append-nil run))
words_run (b ∷ word) rest run r h =
    let e = no_space b h.0 in
    rw (e, words_from) (words_run word rest (run ++ b ∷ []) r h.1
    ∙ ap (λ w. words_from (r ∷ w) rest) (append_assoc run (b ∷ []) word))

word_begins : (word rest : List ℕ) → IsWord word →
    words_from [] (word ++ rest) ≡ words_from word rest
word_begins [] rest h = absurd h
word_begins (b ∷ word) rest h = let e =
    no_space b h.0 in rw (e, words_from) (words_run word rest [] b h.1)

word_ends : (word : List ℕ) → IsWord word → words_from word [] ≡ word ∷ []
word_ends [] h = absurd h
word_ends (b ∷ word) h = refl

space_ends : (word rest : List ℕ) → IsWord word →
    words_from word (space ∷ rest) ≡ word ∷ words_from [] rest
space_ends [] rest h = absurd h
space_ends (b ∷ word) rest h = refl

more_read : (word : List ℕ) (words : List (List ℕ)) → IsWord word → AllByRecursion IsWord words →
    words_from word (words_after true words) ≡ word ∷ words
more_read word [] h k = word_ends word h
more_read word (next ∷ words) h k =
    space_ends word (next ++ words_after true words) h
    ∙ ap (λ ws. word ∷ ws) (word_begins next (words_after true words) k.0
    ∙ more_read next words k.0 k.1)

-- words that are joined by spaces are cut into the same words
pub words_read : (words : List (List ℕ)) → AllByRecursion IsWord words →
    words_from [] (words_text words) ≡ words
words_read [] h = refl
words_read (word ∷ words) h = word_begins word (words_after true words) h.0
    ∙ more_read word words h.0 h.1

spaced_kept : (words : List (List ℕ)) → AllByRecursion IsWord words →
    IsKept (words_after true words)
unfolding sign
spaced_kept [] h = tt
spaced_kept (word ∷ words) h = (
  inr refl,
  IsKept-append word (words_after true words) (IsKept-IsWord word h.0)
      (spaced_kept words h.1),
)

-- double quotes keep such words
pub IsKept-words : (words : List (List ℕ)) → AllByRecursion IsWord words → IsKept (words_text words)
IsKept-words [] h = tt
IsKept-words (word ∷ words) h = IsKept-append word (words_after true words)
    (IsKept-IsWord word h.0) (spaced_kept words h.1)
