-- The text after a beginning.
use Rattle.std.proofs.Common.{◌≡◌, ◌≢◌, ◌==◌, ◌+◌, ℕ, true, false, List, [], ◌∷◌, ◌++◌, Bor, Option, Some, None, drop, take, inl, inr, length, refl, sym, ◌∙◌, ap, ap₂}
use Rattle.std.proofs.lemmas.Bool.{cases_Bool}
use Rattle.std.proofs.lemmas.Bool.Decides.{Decides-eqb}
use Rattle.std.proofs.lemmas.Slice.Eq.{strip_prefix_is}
use Rattle.std.specs.Cmp.Lexicographic.{pointwise}
use Rattle.std.specs.Option.{MatchOption, option_copied}
use Rattle.std.specs.Prelude.{nat_eq}
use Rattle.std.specs.Str.Pattern.{FindsTextPrefix}
use Rattle.cc_base.specs.Found.{after}
use Rattle.cc_base.proofs.Cases.{choose, option_cases}

after-append : (front rest : List ℕ) → after front (front ++ rest) ≡ Some rest
unfolding after
after-append [] rest = refl
after-append (byte ∷ front) rest =
    ap (λ same. choose same (after front (front ++ rest)) None) ((Decides-eqb byte byte).1 refl)
    ∙ after-append front rest

-- a beginning and the text after it make up the text
pub follows : (front text rest : List ℕ) → after front text ≡ Some rest → text ≡ front ++ rest
unfolding after
follows [] text rest e = cc
follows (byte ∷ front) [] rest e = cc
follows (byte ∷ front) (first ∷ text) rest e = elim (cases_Bool (byte == first)) [
  | inl is ↦ ap₂ (λ b t. b ∷ t) (sym ((Decides-eqb byte first).0 is)) (follows front text rest (sym (ap (λ b. choose b (after front text) None) is) ∙ e))
  | inr isnt ↦ let none : None ≡ Some rest = sym (ap (λ b. choose b (after front text) None) isnt) ∙ e in cc
]

-- the result of a search for the text after a beginning
is_after : (front text : List ℕ) (found : Option (Bor (List ℕ))) → MatchOption found ((rest : List ℕ) → text ≢ front ++ rest) (λ rest. text ≡ front ++ rest.now) → option_copied found ≡ after front text
is_after front text (Some rest) h = sym (ap (after front) h ∙ after-append front rest.now)
is_after front text None h = elim (option_cases (after front text)) [
  | inl found ↦ absurd (h found.0 (follows front text found.0 found.1))
  | inr none ↦ sym none
]

-- the result of `strip_prefix` of a text, and of bytes
pub text_stripped : (front text : List ℕ) (found : Option (Bor (List ℕ)))
    → MatchOption found (FindsTextPrefix front text None) (λ x. (n : ℕ) × FindsTextPrefix front text (Some n) × (x.now ≡ drop n text) × (length x.now + n ≡ length text))
    → option_copied found ≡ after front text
text_stripped front text None h = is_after front text None h
text_stripped front text (Some rest) h = is_after front text (Some rest) (h.1.1 ∙ ap (λ r. front ++ r) (sym h.2))

pub bytes_stripped : (front text : List ℕ) (found : Option (Bor (List ℕ)))
    → MatchOption found (pointwise nat_eq (take (length front) text) front ≡ false) (λ x. (pointwise nat_eq (take (length front) text) front ≡ true) × (x.now ≡ drop (length front) text) × (length x.now + length front ≡ length text))
    → option_copied found ≡ after front text
bytes_stripped front text found h = is_after front text found (strip_prefix_is Decides-eqb text front found h)
