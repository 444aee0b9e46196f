-- A list in order is a permutation of the list.
use Rattle.std.proofs.Common.{Bool, List, [], ◌∷◌, inl, inr}
use Rattle.std.specs.List.Sorted.{IsPermutation}
use Rattle.std.proofs.lemmas.Bool.{cases_Bool}
use Rattle.std.proofs.lemmas.List.Sorted.{IsPermutation-refl, IsPermutation-cons, IsPermutation-middle, IsPermutation-trans}
use Rattle.cc_base.specs.Sorting.{insert, in_order}

module _ {X : Type 0} (below : X → X → Bool) where
  insert-permutes : (x : X) (ys : List X) → IsPermutation (x ∷ ys) (insert below x ys)
  unfolding insert
  insert-permutes x [] = IsPermutation-refl (x ∷ [])
  insert-permutes x (y ∷ ys) = elim (cases_Bool (below y x)) [
    | inl t ↦ rw t (IsPermutation-trans (x ∷ y ∷ ys) (y ∷ x ∷ ys) (y ∷ insert below x ys)
        (IsPermutation-middle (x ∷ []) y ys)
        (IsPermutation-cons y (x ∷ ys) (insert below x ys) (insert-permutes x ys)))
    | inr f ↦ rw f (IsPermutation-refl (x ∷ y ∷ ys))
  ]

  pub in_order-permutes : (xs : List X) → IsPermutation xs (in_order below xs)
  unfolding in_order
  in_order-permutes [] = IsPermutation-refl []
  in_order-permutes (x ∷ xs) =
      IsPermutation-trans (x ∷ xs) (x ∷ in_order below xs) (insert below x (in_order below xs))
      (IsPermutation-cons x xs (in_order below xs) (in_order-permutes xs))
      (insert-permutes x (in_order below xs))
