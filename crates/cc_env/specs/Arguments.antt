-- The contents of the arguments of a program: the words of a command line, and its path.
use Rattle.std.specs.Prelude.{ℕ, Bool, true, false, List, [], ◌∷◌, Option, Some, None, codes, if◌then◌else◌}
use Rattle.std.specs.List.{list_any}
use Rattle.std.specs.Path.{path_join, trim_trailing}
use Rattle.std.specs.Str.{bytes_eq}
use Rattle.cc_candidates.specs.PathTexts.{is_slash}

-- the words after the first `--`; none without one
abbrev pub after_dashes : List (List ℕ) → List (List ℕ)
after_dashes [] = []
after_dashes (word ∷ words) = elim (bytes_eq word (codes "--")) [
  | true ↦ words
  | false ↦ after_dashes words
]

-- the words after the first `--` that follows the program's name
abbrev pub words_after : List (List ℕ) → List (List ℕ)
words_after [] = []
words_after (program ∷ rest) = after_dashes rest

-- a path that leads through a folder: it holds a slash before its trailing slashes and `.` pieces
abbrev pub has_folder : List ℕ → Bool
has_folder path = list_any is_slash (trim_trailing path)

-- the path by which a shell runs the program. A path with a folder is joined to the current folder,
-- if that is known. The shell looks up a name without a folder
abbrev pub program_path : Option (List ℕ) → List ℕ → List ℕ
program_path None program = program
program_path (Some current) program =
    if has_folder program then path_join current program else program
