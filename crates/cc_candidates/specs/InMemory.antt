-- The answers of files and directories in memory.
use Rattle.std.specs.Prelude.{ℕ, List, map, length, ◌-◌, ◌&&◌, nat_lt, take, Bool, if◌then◌else◌, Option}
use Rattle.std.specs.Borrow.{Bor}
use Rattle.std.specs.List.{find, list_any}
use Rattle.std.specs.Option.{option_map}
use Rattle.std.specs.Str.{bytes_eq}
use Rattle.cc_candidates.specs.PathTexts.{ends_in_slash}

-- the path without one slash at its end, but `/` unchanged
abbrev pub without_slash : List ℕ → List ℕ
without_slash path =
    if nat_lt 1 (length path) && ends_in_slash path then take (length path - 1) path else path

-- the texts to which the references lead
abbrev pub texts_of : List (Bor (List ℕ)) → List (List ℕ)
texts_of texts = map (λ text. text.now) texts

-- the first directory with this path: its path and its names
abbrev pub folder_at : List (Bor (List ℕ) × Bor (List (Bor (List ℕ)))) → List ℕ
    → Option (Bor (List ℕ) × Bor (List (Bor (List ℕ))))
folder_at folders path = find (λ folder. bytes_eq folder.0.now path) folders

-- the names in the first directory with this path
abbrev pub names_in : List (Bor (List ℕ) × Bor (List (Bor (List ℕ)))) → List ℕ
    → Option (List (List ℕ))
names_in folders path = option_map (λ folder. texts_of folder.1.now) (folder_at folders path)

-- one of the files has this path
abbrev pub has_file : List (Bor (List ℕ)) → List ℕ → Bool
has_file files path = list_any (λ file. bytes_eq file.now path) files
