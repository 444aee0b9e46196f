-- The line and the column of a place in a text, and a path as it is shown.
use Rattle.std.specs.Prelude.{ℕ, ◌+◌, ◌==◌, ◌||◌, Bool, List, [], ◌∷◌, ◌++◌, codes, count_by, decimal, nat_le, nat_lt, not, reverse, take_while}
use Rattle.std.specs.List.{flat_map}
use Rattle.cc_base.specs.Shown.{on_one_line}
use Rattle.complgen_check.specs.Shown.{shown_text}
use Rattle.complgen_tree_file.specs.declared.faults.Step.{Step}
use Rattle.complgen_tree_file.specs.declared.faults.Step.TheVariants.{Item, Key, Member}

-- whether the byte is a line feed
abbrev pub ends_line : ℕ → Bool
ends_line byte = byte == 10

-- whether a character of a UTF-8 text begins with the byte
abbrev pub begins_character : ℕ → Bool
begins_character byte = nat_lt byte 128 || nat_le 192 byte

-- the line after these bytes: one more than the line feeds among them
abbrev pub line_after : List ℕ → ℕ
line_after before = count_by ends_line before + 1

-- the bytes after the last line feed, from the last one back
abbrev pub on_the_line : List ℕ → List ℕ
on_the_line before = take_while (λ byte. not (ends_line byte)) (reverse before)

-- the column after these bytes: one more than the characters after the last line feed
abbrev pub column_after : List ℕ → ℕ
column_after before = count_by begins_character (on_the_line before) + 1

-- a step of a path as it is shown: a key, or an index
pub data ShownStep : Type 0 where
  key : List ℕ → ShownStep
  index : ℕ → ShownStep

-- a step as it is shown; of a member that is its key
abbrev pub shown_step : Step → ShownStep
shown_step (Key name) = key name.now
shown_step (Member name place) = key name.now
shown_step (Item place) = index place

-- the text of a step: a key after this text, an index in brackets
abbrev pub step_text : List ℕ → ShownStep → List ℕ
step_text before (key name) = before ++ shown_text name
step_text before (index place) = (codes "[" ++ decimal place) ++ codes "]"

-- the texts of the steps of a path, as `subcommands[0].args`: a key after a dot, but for the first
abbrev pub joined : List ShownStep → List ℕ
joined [] = codes "the file"
joined (first ∷ rest) = step_text [] first ++ flat_map (step_text (codes ".")) rest

-- the text of a path, on one line
abbrev pub path_text : List ShownStep → List ℕ
path_text path = on_one_line (joined path)
