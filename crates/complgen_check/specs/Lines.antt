-- Findings as lines of text.
use Rattle.std.specs.Prelude.{ℕ, List, ◌++◌, codes, decimal, string_bytes, take}
use Rattle.complgen_check.specs.Places.{column_after, line_after}
use Rattle.complgen_check.specs.declared.errors.finding.Level.{Level}
use Rattle.complgen_check.specs.declared.errors.finding.Level.TheVariants.{Error, Note, Warning}
use Rattle.complgen_check.specs.declared.errors.finding.Finding.{Finding}

-- the name of a level
abbrev pub level_text : Level → List ℕ
level_text Note = codes "note"
level_text Warning = codes "warning"
level_text Error = codes "error"

-- `LINE:COLUMN` of the place after these bytes
abbrev pub place_text : List ℕ → List ℕ
place_text before = (decimal (line_after before) ++ codes ":") ++ decimal (column_after before)

-- a finding in a file of these bytes as a line, `LINE:COLUMN: LEVEL: PATH: TEXT`
abbrev pub finding_line : List ℕ → Finding → List ℕ
finding_line bytes finding = place_text (take finding.offset bytes)
    ++ codes ": " ++ level_text finding.level
    ++ codes ": " ++ string_bytes finding.path
    ++ codes ": " ++ string_bytes finding.text ++ codes "\n"
