-- Lists that are made thing by thing.
use Rattle.std.specs.Prelude.{ℕ, suc, Bool, true, false, List, [], ◌∷◌, ◌++◌}

-- whether a list has no items
abbrev pub is_nil : {A : Type 0} → List A → Bool
is_nil [] = true
is_nil (thing ∷ things) = false

-- a thing, unless a test passes
abbrev pub unless : {A : Type 0} → Bool → A → List A
unless true thing = []
unless false thing = thing ∷ []

-- what a function lists for each of some things with its index, from this index on
abbrev pub each_from : {A B : Type 0} → (ℕ → A → List B) → ℕ → List A → List B
each_from f index [] = []
each_from f index (thing ∷ things) = f index thing ++ each_from f (suc index) things
