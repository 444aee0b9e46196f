-- A sorted list, in which elements that tie keep their order.
use Rattle.std.specs.Prelude.{List, [], ◌∷◌, Bool, if◌then◌else◌}

-- a sorted list with one more element: after those below it, before all others
unfoldable pub insert : {X : Type 0} → (X → X → Bool) → X → List X → List X
insert below x [] = x ∷ []
insert below x (y ∷ ys) = if below y x then y ∷ insert below x ys else x ∷ y ∷ ys

-- the sorted elements; `below` says whether one element comes before another
unfoldable pub in_order : {X : Type 0} → (X → X → Bool) → List X → List X
in_order below [] = []
in_order below (x ∷ xs) = insert below x (in_order below xs)
