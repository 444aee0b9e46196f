-- A loop that joins texts stops at a separator, or at the text after it.
use Rattle.std.proofs.Common.{◌≡◌, ◌<◌, ◌+◌, ◌∙◌, ℕ, List, ◌∷◌, ◌++◌, Bool, true, Err, ap, append_assoc, drop, get_or, length, subst}
use Rattle.cc_base.proofs.Lists.{one_more}
use Rattle.cc_base.proofs.WrittenTexts.{GoesOn}
use Rattle.cc_base.specs.declared.error.Error.{Error}
use Rattle.cc_base.specs.declared.failures.Failures.{Failures}
use Rattle.cc_base.specs.Joined.{joined_after, separator}
use Rattle.cc_base.specs.Writes.{Writes}
use Rattle.cc_base.proofs.Stopped.{stops_within}

module _ {X : Type 0} (between : List ℕ) (begun : Bool) (texts : List X → List (List ℕ)) (items : List X)
    (i : ℕ) (item : X) (one : List ℕ) where
  -- what is left of the texts, and what is left after the next
  abbrev left : List ℕ
  left = joined_after between begun (texts (drop i items))

  abbrev rest : List ℕ
  rest = joined_after between true (texts (drop (i + 1) items))

  left_is : i < length items → item ≡ get_or items i item →
      texts (item ∷ drop (i + 1) items) ≡ one ∷ texts (drop (i + 1) items) →
      left ≡ (separator between begun ++ one) ++ rest
  left_is less at opens =
      ap (λ more. joined_after between begun (texts more)) (one_more items i item item less at)
      ∙ ap (joined_after between begun) opens

  module _ {S : Type 0} {taken : S → List ℕ} {failed : S → Failures} {error : Error} {before mid new : S}
      (all : List ℕ) where
    pub stops_at_separator : i < length items → item ≡ get_or items i item →
        texts (item ∷ drop (i + 1) items) ≡ one ∷ texts (drop (i + 1) items) →
        GoesOn taken failed before mid all left →
        Writes taken failed (Err error) mid new (separator between begun) →
        Writes taken failed (Err error) before new all
    stops_at_separator less at opens goes w =
        let P : List ℕ → Type 0 = λ text. GoesOn taken failed before mid all text in
        stops_within all (separator between begun) (one ++ rest)
        (subst P (left_is less at opens ∙ append_assoc (separator between begun) one rest) goes) w

    pub stops_after_separator : i < length items → item ≡ get_or items i item →
        texts (item ∷ drop (i + 1) items) ≡ one ∷ texts (drop (i + 1) items) →
        GoesOn taken failed before mid all left →
        Writes taken failed (Err error) mid new (separator between begun ++ one) →
        Writes taken failed (Err error) before new all
    stops_after_separator less at opens goes w =
        let P : List ℕ → Type 0 = λ text. GoesOn taken failed before mid all text in
        stops_within all (separator between begun ++ one) rest (subst P (left_is less at opens) goes) w
