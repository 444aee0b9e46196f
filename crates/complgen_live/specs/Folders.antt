-- The directories that hold tree files, from the values of variables.
use Rattle.std.specs.Prelude.{ℕ, Bool, not, List, [], ◌∷◌, ◌++◌, ◌==◌, length, map, filter, Option, None, Some, unwrap_or, codes}
use Rattle.std.specs.List.{slice_split}
use Rattle.std.specs.Path.{path_join}
use Rattle.cc_candidates.specs.PathTexts.{is_absolute}

-- the byte is `:`
abbrev pub is_colon : ℕ → Bool
is_colon byte = byte == 58

-- the paths in a list with `:` between them
abbrev pub pieces : List ℕ → List (List ℕ)
pieces list = slice_split is_colon list

-- the text is not empty
abbrev pub is_some_text : List ℕ → Bool
is_some_text text = not (length text == 0)

-- the value of a variable that is set and not empty
abbrev pub some_text : Option (List ℕ) → Option (List ℕ)
some_text None = None
some_text (Some []) = None
some_text (Some (byte ∷ bytes)) = Some (byte ∷ bytes)

-- the directory of tree files in a data directory
abbrev pub data_folder : List ℕ → List ℕ
data_folder dir = path_join dir (codes "complgen")

-- the user's directory of tree files: in the named data directory, or else in the home directory
abbrev pub user_folders : Option (List ℕ) → Option (List ℕ) → List (List ℕ)
user_folders (Some shared) home = data_folder shared ∷ []
user_folders None (Some home) = path_join home (codes ".local/share/complgen") ∷ []
user_folders None None = []

-- the system's data directories, if no others are named
abbrev pub default_data : List ℕ
default_data = codes "/usr/local/share:/usr/share"

-- the system's directories of tree files: one in each data directory with an absolute path
abbrev pub system_folders : List ℕ → List (List ℕ)
system_folders list = map data_folder (filter is_absolute (pieces list))

-- The directories, in the order in which they are searched. The values are those of
-- `COMPLGEN_PATH`, `XDG_DATA_HOME`, `HOME` and `XDG_DATA_DIRS`. If the first is set, it alone
-- counts. Otherwise the user's directory comes first, and then the system's directories.
abbrev pub tree_folders : Option (List ℕ) → Option (List ℕ) → Option (List ℕ) → Option (List ℕ)
    → List (List ℕ)
tree_folders (Some list) shared home dirs = filter is_some_text (pieces list)
tree_folders None shared home dirs = user_folders (some_text shared) (some_text home)
    ++ system_folders (unwrap_or (some_text dirs) default_data)
