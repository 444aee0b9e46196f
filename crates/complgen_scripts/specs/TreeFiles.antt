-- The result of parsing a tree file, and the report of a file that holds no tree.
use Rattle.std.specs.Prelude.{◌⊎◌, ℕ, List, Option, None, Some, Result, Ok, Err}
use Rattle.cc_command.specs.Tree.{Tree}
use Rattle.complgen_scripts.specs.Refusals.{IsRefusal}
use Rattle.complgen_scripts.specs.declared.refusals.Refusal.{Refusal}
use Rattle.complgen_scripts.specs.Refusals.{IsMade, ReportsTree, ReportsTreeAt, bad_form_at}
use Rattle.complgen_scripts.specs.Refusals.{bad_form_line, not_json_at, not_json_line}
use Rattle.complgen_scripts.specs.Refusals.{unreadable_at, unreadable_line}
use Rattle.complgen_tree_file.specs.TreeFile.{Describes, HoldsTree, ReadsTree, SpellsNone}
use Rattle.complgen_tree_file.specs.declared.error.TreeError.{TreeError}

-- the file holds no tree, and that is reported
pub data HoldsNoTree : Option (List ℕ) → Refusal → Type 0 where
  -- the file can't be read
  unreadable : (refusal : Refusal) → IsRefusal unreadable_line refusal → HoldsNoTree None refusal
  -- its bytes are not JSON
  not_json : (bytes : List ℕ) (refusal : Refusal) → SpellsNone bytes
      → IsRefusal not_json_line refusal → HoldsNoTree (Some bytes) refusal
  -- the JSON describes no command
  bad_form : (bytes : List ℕ) (refusal : Refusal) → Describes bytes None
      → IsRefusal bad_form_line refusal → HoldsNoTree (Some bytes) refusal

-- the report of a tree file from which no command is read
abbrev pub ReportsFile : Option (List ℕ) → Refusal → Type 0
ReportsFile None refusal = IsRefusal unreadable_line refusal
ReportsFile (Some bytes) refusal =
    (error : TreeError) × ReportsTree error refusal × ReadsTree bytes (Err error)

-- the result of parsing a tree file
abbrev pub ReadsFile : Option (List ℕ) → Result Tree Refusal → Type 0
ReadsFile file (Ok command) = HoldsTree file command
ReadsFile file (Err refusal) = ReportsFile file refusal

-- ---- the same for the file at a path, which the report names

-- the file holds no tree, and that is reported
abbrev pub HoldsNoTreeAt : List ℕ → Option (List ℕ) → Refusal → Type 0
HoldsNoTreeAt path None refusal = IsMade (unreadable_at path) refusal
HoldsNoTreeAt path (Some bytes) refusal = (SpellsNone bytes × IsMade (not_json_at path) refusal)
    ⊎ (Describes bytes None × IsMade (bad_form_at path) refusal)

-- the report of a file from which no command is read
abbrev pub ReportsFileAt : List ℕ → Option (List ℕ) → Refusal → Type 0
ReportsFileAt path None refusal = IsMade (unreadable_at path) refusal
ReportsFileAt path (Some bytes) refusal =
    (error : TreeError) × ReportsTreeAt path error refusal × ReadsTree bytes (Err error)

-- the result of parsing the file
abbrev pub ReadsFileAt : List ℕ → Option (List ℕ) → Result Tree Refusal → Type 0
ReadsFileAt path file (Ok command) = HoldsTree file command
ReadsFileAt path file (Err refusal) = ReportsFileAt path file refusal
