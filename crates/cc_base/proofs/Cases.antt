-- An option and a test by cases.
use Rattle.std.proofs.Common.{◌≡◌, Bool, true, false, Option, Some, None, ◌⊎◌, inl, inr, refl}

pub option_cases : {A : Type 0} (option : Option A) → ((value : A) × (option ≡ Some value)) ⊎ (option ≡ None)
option_cases (Some value) = inl (value, refl)
option_cases None = inr refl

-- one of two values, chosen by a test
abbrev pub choose : {A : Type 0} → Bool → A → A → A
choose test first second = elim test [ true ↦ first | false ↦ second ]
