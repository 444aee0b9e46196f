-- Lists taken apart.
use Rattle.std.proofs.Common.{◌≡◌, ℕ, ◌+◌, ◌<◌, List, ◌∷◌, length, drop, get_or, sym, ap, ◌∙◌}
use Rattle.std.proofs.lemmas.List.{drop_more}

-- the list from an index on is the element there, and the elements after it
pub one_more : {X : Type 0} → (xs : List X) (i : ℕ) (d x : X) → i < length xs → x ≡ get_or xs i d →
    drop i xs ≡ x ∷ drop (i + 1) xs
one_more xs i d x lt at = drop_more xs i d lt ∙ ap (λ y. y ∷ drop (i + 1) xs) (sym at)
