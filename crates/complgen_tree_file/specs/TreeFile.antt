-- The meaning of the bytes of a tree file.
use Rattle.std.specs.Prelude.{◌≡◌, ⊤, ℕ, false, List, Option, None, Some, Result, Ok, Err}
use Rattle.std.specs.Str.{IsUtf8}
use Rattle.std.specs.declared.alloc.Global.{Global}
use Rattle.json.specs.declared.value.Value.{Value}
use Rattle.serde_json.specs.Data.{Data}
use Rattle.serde_json.specs.Read.{read}
use Rattle.complgen_tree_file.specs.JsonSeen.{view}
use Rattle.cc_command.specs.Tree.{Tree}
use Rattle.complgen_tree_file.specs.CommandForm.{command_of}
use Rattle.complgen_tree_file.specs.Faults.{has_none}
use Rattle.complgen_tree_file.specs.declared.error.TreeError.{TreeError}
use Rattle.complgen_tree_file.specs.declared.error.TreeError.TheVariants.{BadForm, Memory, NotJson}
use Rattle.complgen_tree_file.specs.declared.faults.Faults.{Faults}

-- the bytes spell this JSON
abbrev pub Spells : List ℕ → Data → Type 0
Spells bytes d = IsUtf8 bytes × (read bytes ≡ Some d)

-- the bytes spell no JSON
abbrev pub SpellsNone : List ℕ → Type 0
SpellsNone bytes = IsUtf8 bytes → read bytes ≡ None

-- reading bytes as JSON returns the value that they spell, and fails with `NotJson` where they
-- spell none; it may be out of memory
abbrev pub ReadsValue : List ℕ → Result (Value Global) TreeError → Type 0
ReadsValue bytes (Ok value) = Spells bytes (view value)
ReadsValue bytes (Err NotJson) = SpellsNone bytes
ReadsValue bytes (Err BadForm) = ⊥
ReadsValue bytes (Err Memory) = ⊤

-- a value describes this command; or it describes none, and something is found wrong with it
abbrev pub FindsCommand : Data → Result Tree Faults → Type 0
FindsCommand d (Ok command) = command_of d ≡ Some command
FindsCommand d (Err faults) = (command_of d ≡ None) × (has_none faults ≡ false)

-- the bytes spell JSON, which describes this command, or none
abbrev pub Describes : List ℕ → Option Tree → Type 0
Describes bytes described = (d : Data) × Spells bytes d × (command_of d ≡ described)

-- reading a tree file returns the command that the bytes describe, and fails with `NotJson` where
-- they spell no JSON and with `BadForm` where it describes no command; it may be out of memory
abbrev pub ReadsTree : List ℕ → Result Tree TreeError → Type 0
ReadsTree bytes (Ok command) = Describes bytes (Some command)
ReadsTree bytes (Err NotJson) = SpellsNone bytes
ReadsTree bytes (Err BadForm) = Describes bytes None
ReadsTree bytes (Err Memory) = ⊤

-- the file can be read, and its bytes describe this command
abbrev pub HoldsTree : Option (List ℕ) → Tree → Type 0
HoldsTree None command = ⊥
HoldsTree (Some bytes) command = Describes bytes (Some command)
