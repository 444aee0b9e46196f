-- The parts of a finding that are shown, apart from its line and its column.
use Rattle.std.specs.Prelude.{◌≡◌, ℕ, ◌-◌, All, List, [], ◌++◌, Option, Some, codes, false, length, map, slice_get, string_bytes}
use Rattle.cc_base.specs.Shown.{HoldsNoControl}
use Rattle.complgen_check.specs.Places.{ShownStep, key, path_text}
use Rattle.complgen_check.specs.Shown.{shown_text}
use Rattle.complgen_check.specs.declared.errors.finding.Finding.{Finding}
use Rattle.complgen_check.specs.declared.errors.finding.Level.{Level}
use Rattle.complgen_check.specs.declared.errors.finding.Level.TheVariants.{Error, Warning}
use Rattle.complgen_tree_file.specs.Faults.{is_nil}

-- a level, a path and a text
pub record Shown : Type 0 where
  pub level : Level
  pub path : List ℕ
  pub text : List ℕ

-- a level, the text of this path, and a text
abbrev pub says : Level → List ShownStep → List ℕ → Shown
says level path text = record { level = level; path = path_text path; text = text }

-- what is shown of a finding
abbrev pub shown : Finding → Shown
shown finding = record {
  level = finding.level;
  path = string_bytes finding.path;
  text = string_bytes finding.text;
}

-- the key of a step; an index has none
abbrev pub key_of : Option ShownStep → List ℕ
key_of (Some (key name)) = name
key_of _ = []

-- the key of the last step of a path; empty if that step is an index
abbrev pub last_key : List ShownStep → List ℕ
last_key path = key_of (slice_get path (length path - 1))

-- the text that a later member hides the one that a path leads to
abbrev pub double_text : List ShownStep → List ℕ
double_text path = (codes "duplicate key `" ++ shown_text (last_key path))
    ++ codes "`; the last one is used"

-- what is shown of a member that a later one hides
abbrev pub shown_double : List ShownStep → Shown
shown_double path = says Warning path (double_text path)

-- what is shown of an error; its path and its text are on one line
pub record IsError (error : Shown) : Type 0 where
  pub level : error.level ≡ Error
  pub path : HoldsNoControl error.path
  pub line : HoldsNoControl error.text

-- errors, at least one
pub record AreErrors (found : List Finding) : Type 0 where
  pub some : is_nil found ≡ false
  pub each : All IsError (map shown found)
