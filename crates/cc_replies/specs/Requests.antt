-- Requests of shells to a program, by a variable and the words.
use Rattle.std.specs.Prelude.{ℕ, Bool, true, false, not, ◌&&◌, ◌||◌, List, [], ◌∷◌, Option, None, Some, codes}
use Rattle.std.specs.Str.{bytes_eq}

-- a value that requests nothing: the empty text and `0`
abbrev pub wants_nothing : List ℕ → Bool
wants_nothing value = bytes_eq value [] || bytes_eq value (codes "0")

-- a value of the variable that names a shell: set, and not one that requests nothing
abbrev pub names_shell : Option (List ℕ) → Bool
names_shell None = false
names_shell (Some value) = not (wants_nothing value)

-- the program's name alone, or with a `--` after it
abbrev pub begins_request : List (List ℕ) → Bool
begins_request [] = true
begins_request (program ∷ []) = true
begins_request (program ∷ (word ∷ words)) = bytes_eq word (codes "--")

-- a request, by the value of the variable and the words
abbrev pub is_request : Option (List ℕ) → List (List ℕ) → Bool
is_request value words = names_shell value && begins_request words
