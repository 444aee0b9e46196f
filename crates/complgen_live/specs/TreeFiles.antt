-- The names and the paths of tree files.
use Rattle.std.specs.Prelude.{◌≡◌, ◌⊎◌, ◌&&◌, ℕ, Bool, IsTrue, not, List, [], ◌∷◌, ◌++◌, ◌-◌, bytes_eq, length, map, take, Option, None, Some, codes, if◌then◌else◌, nat_eq}
use Rattle.std.specs.List.{ends_with, flat_map}
use Rattle.std.specs.Path.{cur_dir, has_no_slash, parent_dir, path_file_name, path_join, with_separator}

-- the end of a tree file's name
abbrev pub ending : List ℕ
ending = codes ".json"

-- the path of the tree file of a program in a directory
abbrev pub tree_path : List ℕ → List ℕ → List ℕ
tree_path folder name = path_join folder name ++ ending

-- the name of a file in a directory: it has no slash, and is neither `.` nor `..`
abbrev pub is_file_name : List ℕ → Bool
is_file_name name =
    has_no_slash name && not (bytes_eq name cur_dir) && not (bytes_eq name parent_dir)

-- Each path is that of one name of a file, directly in the directory at its place. If there is no
-- such name, there are no paths.
abbrev pub AreInFolders : List (List ℕ) → List (List ℕ) → Type 0
AreInFolders folders paths =
    (paths ≡ [])
    ⊎ ((name : List ℕ) × IsTrue (is_file_name name)
    × (paths ≡ map (λ folder. with_separator folder ++ name ++ ending) folders))

-- the paths of the tree files of a program in some directories, if it has a name
abbrev pub paths_of : Option (List ℕ) → List (List ℕ) → List (List ℕ)
paths_of None folders = []
paths_of (Some name) folders = map (λ folder. tree_path folder name) folders

-- the paths of the tree files of the program that a word calls, in the order of the directories
abbrev pub tree_paths : List ℕ → List (List ℕ) → List (List ℕ)
tree_paths word folders = paths_of (path_file_name word) folders

-- the name of the program whose tree file has this name, if it is the name of a tree file
abbrev pub tree_stem : List ℕ → Option (List ℕ)
tree_stem name = if ends_with nat_eq name ending
    then Some (take (length name - length ending) name) else None

-- the same as a list
abbrev pub found_stem : Option (List ℕ) → List (List ℕ)
found_stem None = []
found_stem (Some stem) = stem ∷ []

-- the names of the programs whose tree files have these names
abbrev pub stems : List (List ℕ) → List (List ℕ)
stems names = flat_map (λ name. found_stem (tree_stem name)) names
