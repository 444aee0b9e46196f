-- The files that list values: their paths, and how much of a file counts.
use Rattle.std.specs.Prelude.{ℕ, Bool, List, [], ◌∷◌, ◌==◌, length, nat_le, take, Option, None, Some, bytes_eq, codes, if◌then◌else◌}
use Rattle.std.specs.List.{after_first, before_first, list_any}
use Rattle.std.specs.Option.{option_map_or}
use Rattle.cc_base.specs.Bytes.{line_feed}
use Rattle.cc_candidates.specs.PathTexts.{is_absolute, is_slash, join_some}

-- what follows `~/` at the start of a path
abbrev pub after_home : List ℕ → Option (List ℕ)
after_home path = if bytes_eq (before_first is_slash path) (codes "~")
    then Some (after_first is_slash path) else None

-- The path of a file of values: an absolute path as it is, one after `~/` in the home directory,
-- and any other in the current directory. There is none if that directory is not known.
abbrev pub values_path : Option (List ℕ) → Option (List ℕ) → List ℕ → Option (List ℕ)
values_path home current path =
    if is_absolute path then Some path
    else option_map_or (join_some home) (after_home path) (join_some current path)

-- a line feed is in the text
abbrev pub has_line_end : List ℕ → Bool
has_line_end text = list_any (λ byte. byte == line_feed) text

-- the text up to its last line feed; nothing without one
abbrev pub whole_lines : List ℕ → List ℕ
whole_lines [] = []
whole_lines (byte ∷ text) =
    if has_line_end (byte ∷ text) then byte ∷ whole_lines text else []

-- all of a text that is not longer than the limit; of a longer one, the lines that end within it
abbrev pub first_lines : ℕ → List ℕ → List ℕ
first_lines limit text =
    if nat_le (length text) limit then text else whole_lines (take limit text)
