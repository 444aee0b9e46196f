-- A writer whose contract names the bytes that it holds.
use Rattle.std.specs.Prelude.{◌≡◌, List, [], ℕ, Some, None}
use Rattle.std.specs.declared.option.Option.{Option}

-- the bytes that the writer is known to hold, or `[]` if nothing is known
abbrev pub told : Option (List ℕ) → List ℕ
told (Some bytes) = bytes
told None = []

-- it is known what the writer holds, even if that is nothing
abbrev pub Tells : Option (List ℕ) → Type 0
Tells contents = contents ≡ Some (told contents)
