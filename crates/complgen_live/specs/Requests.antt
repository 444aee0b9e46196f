-- The words of a request that a shell completes.
use Rattle.std.specs.Prelude.{ℕ, List, [], ◌∷◌, Option, None, Some, codes, if◌then◌else◌}
use Rattle.std.specs.Str.{bytes_eq}

-- the words after the `--` that follows the program's name, if there is one
abbrev pub request_words : List (List ℕ) → Option (List (List ℕ))
request_words [] = None
request_words (program ∷ []) = None
request_words (program ∷ (word ∷ words)) =
    if bytes_eq word (codes "--") then Some words else None
