-- The words of a command line, and the index of the one to complete, by an environment and the
-- words that an adapter gets.
use Rattle.std.specs.Prelude.{◌≡◌, ◌==◌, ◌-◌, ◌++◌, ℕ, List, [], ◌∷◌, length, if◌then◌else◌}
use Rattle.cc_replies.specs.Environment.{IsIndex, index_name, value_of}
use Rattle.cc_replies.specs.declared.environment.EnvValues.{EnvValues}

-- these words, at this index
abbrev pub WantsThese : List (List ℕ) → ℕ → List (List ℕ) → ℕ → Type 0
WantsThese words number wanted index = (index ≡ number) × (wanted ≡ words)

-- the words as they are, at the index in the environment
abbrev pub WantsAtIndex : EnvValues → List (List ℕ) → List (List ℕ) → ℕ → Type 0
WantsAtIndex env words wanted index = IsIndex (value_of index_name env) index × (wanted ≡ words)

-- the words, with an empty one after them if the index is their number
abbrev pub with_next : List (List ℕ) → ℕ → List (List ℕ)
with_next words index = if index == length words then words ++ [] ∷ [] else words

-- those words, at the index in the environment
abbrev pub WantsAtNext : EnvValues → List (List ℕ) → List (List ℕ) → ℕ → Type 0
WantsAtNext env words wanted index =
    IsIndex (value_of index_name env) index × (wanted ≡ with_next words index)

-- the words as they are, at the last of them; of an empty list, at index 0
abbrev pub WantsAtLast : List (List ℕ) → List (List ℕ) → ℕ → Type 0
WantsAtLast words wanted index = (index ≡ length words - 1) × (wanted ≡ words)
