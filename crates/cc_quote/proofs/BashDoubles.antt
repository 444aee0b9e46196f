-- The reading of an escaped text between two `"` in bash.
use Rattle.std.specs.Prelude.{⊤}
use Rattle.std.proofs.Common.{subst, ◌≡◌, ◌==◌, ℕ, Bool, true, false, cond, List, [], ◌∷◌, ◌++◌, Option, Some, None, codes, refl, sym, ◌∙◌, ap, arith, append_assoc, append-nil}
use Rattle.std.proofs.lemmas.Bool.Decides.{Decides-eqb, nat_tests}
use Rattle.cc_base.specs.Bytes as ascii
use Rattle.cc_quote.specs.BashDouble.{double_next, bash_double_from, bash_double_of, is_double_marked, bash_doubled}
use Rattle.cc_quote.specs.Escapes.{marked_byte}
use Rattle.cc_quote.specs.PosixSigns.{Sign, sign}
use Rattle.cc_quote.specs.PosixSigns.Sign.{double_quote, backslash, special}
use Rattle.cc_quote.specs.PosixQuote.{next_state, word_after, posix_next, posix_added, is_bare, posix_word_from, posix_word_of}
use Rattle.cc_quote.specs.WordReader.{ended, word_from}
use Rattle.cc_quote.specs.declared.posix.QuoteState.{QuoteState}
use Rattle.cc_quote.specs.declared.posix.QuoteState.TheVariants.{Bare, InDouble, InDoubleEscaped}

-- the meaning of a byte that needs no backslash
abbrev IsKept : Sign → Type 0
IsKept double_quote = ⊥
IsKept backslash = ⊥
IsKept (special _) = ⊥
IsKept _ = ⊤

kept : (byte : ℕ) → is_double_marked byte ≡ false → (s : Sign) → sign byte ≡ s → IsKept s
unfolding sign
kept byte h double_quote e = grind (arith, nat_tests)
kept byte h backslash e = grind (arith, nat_tests)
kept byte h (special b) e = grind (arith, nat_tests)
kept byte h s e = tt

-- the bytes that need a backslash
marked_cases : (byte : ℕ) (P : ℕ → Type 0) → is_double_marked byte ≡ true → P 92 → P 34 → P 36 → P 96 → P byte
marked_cases byte P h a b c d = by_tests (byte == ascii.backslash) (byte == ascii.double_quote) (byte == ascii.dollar) (byte == ascii.backtick) refl refl refl refl
  where
    by_tests : (p q r s : Bool) → (byte == ascii.backslash) ≡ p → (byte == ascii.double_quote) ≡ q → (byte == ascii.dollar) ≡ r → (byte == ascii.backtick) ≡ s → P byte
    by_tests true q r s e f g i = subst P (sym ((Decides-eqb byte ascii.backslash).0 e)) a
    by_tests false true r s e f g i = subst P (sym ((Decides-eqb byte ascii.double_quote).0 f)) b
    by_tests false false true s e f g i = subst P (sym ((Decides-eqb byte ascii.dollar).0 g)) c
    by_tests false false false true e f g i = subst P (sym ((Decides-eqb byte ascii.backtick).0 i)) d
    by_tests false false false false e f g i = absurd (grind (arith, nat_tests))

-- ---- an escaped text, for any reader that behaves within `"` as the reader of words does

module _ (next : QuoteState → ℕ → Option QuoteState) (in_double : (c : ℕ) → next InDouble c ≡ posix_next InDouble c) (escaped : (c : ℕ) → next InDoubleEscaped c ≡ posix_next InDoubleEscaped c) where
  abbrev from : QuoteState → List ℕ → List ℕ → Option (List ℕ × List ℕ)
  from state word text = word_from next posix_added is_bare state word text

  -- the reading from a byte on, given the state after it
  abbrev resumed : QuoteState → List ℕ → ℕ → List ℕ → Option QuoteState → Option (List ℕ × List ℕ)
  resumed state word byte rest after = elim after [
    | Some then ↦ from then (posix_added state byte word (byte ∷ [])) rest
    | None ↦ ended (is_bare state) word (byte ∷ rest)
  ]

  kept_byte : (byte : ℕ) (rest word : List ℕ) → IsKept (sign byte) → from InDouble word (byte ∷ rest) ≡ from InDouble (word ++ byte ∷ []) rest
  kept_byte byte rest word h = ap (resumed InDouble word byte rest) (in_double byte) ∙ by (sign byte) h
    where
      by : (s : Sign) → IsKept s
          → elim (next_state InDouble s) [
            | Some then ↦ from then (word_after InDouble s word (byte ∷ [])) rest
            | None ↦ None
          ] ≡ from InDouble (word ++ byte ∷ []) rest
      by double_quote h = absurd h
      by backslash h = absurd h
      by (special b) h = absurd h
      by s h = refl

  marked_read : (byte : ℕ) (rest word : List ℕ) → from InDouble word (marked_byte is_double_marked byte ++ rest) ≡ from InDouble (word ++ byte ∷ []) rest
  unfolding sign
  marked_read byte rest word = by_test (is_double_marked byte) refl
    where
      after_backslash : (byte : ℕ) → from InDouble word (ascii.backslash ∷ byte ∷ rest) ≡ resumed InDoubleEscaped word byte rest (posix_next InDoubleEscaped byte)
      after_backslash byte = ap (resumed InDouble word ascii.backslash (byte ∷ rest)) (in_double ascii.backslash) ∙ ap (resumed InDoubleEscaped word byte rest) (escaped byte)

      by_test : (q : Bool) → is_double_marked byte ≡ q
          → from InDouble word (cond q (ascii.backslash ∷ byte ∷ []) (byte ∷ []) ++ rest) ≡ from InDouble (word ++ byte ∷ []) rest
      by_test true e = marked_cases byte (λ b. from InDouble word (ascii.backslash ∷ b ∷ rest) ≡ from InDouble (word ++ b ∷ []) rest) e
          (after_backslash 92) (after_backslash 34) (after_backslash 36) (after_backslash 96)
      by_test false e = kept_byte byte rest word (kept byte e (sign byte) refl)

  doubled : (text rest word : List ℕ) → from InDouble word (bash_doubled text ++ rest) ≡ from InDouble (word ++ text) rest
  doubled [] rest word = ap (λ w. from InDouble w rest) (sym (append-nil word))
  doubled (byte ∷ text) rest word =
      ap (from InDouble word) (append_assoc (marked_byte is_double_marked byte) (bash_doubled text) rest)
      ∙ marked_read byte (bash_doubled text ++ rest) word
      ∙ doubled text rest (word ++ byte ∷ [])
      ∙ ap (λ w. from InDouble w rest) (append_assoc word (byte ∷ []) text)

-- an escaped text between two `"`, whatever follows
doubled_reads : (text rest : List ℕ) → bash_double_of (codes "\"" ++ (bash_doubled text ++ (codes "\"" ++ rest))) ≡ Some (text, rest)
unfolding bash_double_of bash_double_from sign
doubled_reads text rest = doubled double_next (λ c. refl) (λ c. refl) text (ascii.double_quote ∷ rest) [] ∙ left text rest
  where
    left : (word rest : List ℕ) → word_from double_next posix_added is_bare Bare word rest ≡ Some (word, rest)
    left word [] = refl
    left word (byte ∷ rest) = refl

-- an escaped text in `"`, read as a word, before a space
pub doubled_is_word : (text rest : List ℕ) → posix_word_of (codes "\"" ++ (bash_doubled text ++ (codes "\"" ++ (ascii.space ∷ rest)))) ≡ Some (text, ascii.space ∷ rest)
unfolding posix_word_of posix_word_from sign
doubled_is_word text rest = doubled posix_next (λ c. refl) (λ c. refl) text (ascii.double_quote ∷ ascii.space ∷ rest) []

pub doubled_reads_back : (text : List ℕ) → bash_double_of (codes "\"" ++ bash_doubled text ++ codes "\"") ≡ Some (text, [])
doubled_reads_back text = doubled_reads text []
