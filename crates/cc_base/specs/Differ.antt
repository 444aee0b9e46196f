-- Lists in which no text, path or key appears twice.
use Rattle.std.specs.Prelude.{◌≢◌, List, [], ◌∷◌}
use Rattle.std.specs.List.{AllByRecursion}

-- no two elements of the list have the same value
abbrev pub AllDifferBy : {A B : Type 0} → (A → B) → List A → Type 0
AllDifferBy value [] = Unit {0}
AllDifferBy value (x ∷ xs) =
    AllByRecursion (λ other. value x ≢ value other) xs × AllDifferBy value xs
