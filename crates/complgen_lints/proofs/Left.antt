-- The invariant of a loop that adds what each of some things gives.
use Rattle.std.proofs.Common.{◌≡◌, ◌++◌, ℕ, List, drop}
use Rattle.complgen_lints.specs.Lists.{each_from}

-- what is there and what the remaining things give make the whole, which begins with what was there
abbrev pub Left : {A B : Type 0} → (ℕ → A → List B) → List B → List B → ℕ → List A → Type 0
Left gives old now index things =
    now ++ each_from gives index (drop index things) ≡ old ++ each_from gives 0 things
