-- Marks in a text: offsets whose lines and columns are known.
use Rattle.std.specs.Prelude.{◌≡◌, ◌≤◌, ℕ, List, length, take}
use Rattle.complgen_check.specs.Places.{column_after, line_after}
use Rattle.complgen_check.specs.declared.errors.line_numbers.Mark.{Mark}

-- a mark has the line and the column of its offset
pub record IsMark (bytes : List ℕ) (mark : Mark) : Type 0 where
  pub inside : mark.offset ≤ length bytes
  pub line : mark.line ≡ line_after (take mark.offset bytes)
  pub column : mark.column ≡ column_after (take mark.offset bytes)
