-- The parts of a path, and the directory in which a word is completed.
use Rattle.std.specs.Prelude.{ℕ, List, [], ◌∷◌, length, slice_index, Bool, ◌||◌, ◌-◌, ◌==◌, if◌then◌else◌, Option, Some, None, is_none, unwrap_or, codes}
use Rattle.std.specs.List.{after_first, before_first}
use Rattle.std.specs.Option.{option_map, option_map_or}
use Rattle.std.specs.Path.{slash, is_leading, path_file_name, path_join, path_parent}
use Rattle.std.specs.Str.{bytes_eq}

-- the byte is a slash
abbrev pub is_slash : ℕ → Bool
is_slash byte = byte == slash

-- the text begins with a slash
abbrev pub is_absolute : List ℕ → Bool
is_absolute path = slice_index path 0 == slash

-- the text ends in a slash
abbrev pub ends_in_slash : List ℕ → Bool
ends_in_slash path = slice_index path (length path - 1) == slash

-- the path after its leading slashes and `.` components
abbrev pub past_leading : List ℕ → List ℕ
past_leading [] = []
past_leading (byte ∷ rest) =
    if is_leading (byte ∷ rest) 0 then past_leading rest else byte ∷ rest

-- The whole word names a directory: it is empty, ends in a slash or in the component `..`, or has no
-- component but `.`.
abbrev pub is_folder_word : List ℕ → Bool
is_folder_word word = ends_in_slash word || is_none (path_file_name word)

-- the part of the word that names a directory
unfoldable pub word_prefix : List ℕ → List ℕ
word_prefix word = if is_folder_word word then word else unwrap_or (path_parent word) []

-- the beginning of a name in that directory
unfoldable pub word_name : List ℕ → List ℕ
word_name word = if is_folder_word word then [] else unwrap_or (path_file_name word) []

-- The rest of a path whose first component is `~`, without leading slashes and `.` components.
-- Other paths have none.
abbrev pub below_home : List ℕ → Option (List ℕ)
below_home path = if bytes_eq (before_first is_slash path) (codes "~")
    then Some (past_leading (after_first is_slash path)) else None

-- the path joined to a directory, if there is one
abbrev pub join_some : Option (List ℕ) → List ℕ → Option (List ℕ)
join_some folder path = option_map (λ from. path_join from path) folder

-- The directory to list for a prefix, given a home directory and a current directory. The
-- result is `None` if one of them is needed and missing.
unfoldable pub search_root : Option (List ℕ) → Option (List ℕ) → List ℕ → Option (List ℕ)
search_root home current prefix =
    if is_absolute prefix then Some prefix
    else option_map_or (join_some home) (below_home prefix) (join_some current prefix)
