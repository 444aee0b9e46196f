-- The results of a check of a tree file.
use Rattle.std.specs.Prelude.{◌≡◌, ℕ, List, [], Some, None, map}
use Rattle.json.specs.Json.{Json}
use Rattle.cc_command.specs.Tree.{Tree}
use Rattle.complgen_tree_file.specs.JsonReads.{SpellsJson}
use Rattle.complgen_tree_file.specs.JsonSeen.{data_of}
use Rattle.complgen_tree_file.specs.CommandForm.{command_of}
use Rattle.complgen_tree_file.specs.TreeFile.{Describes}
use Rattle.complgen_check.specs.Doubles.{hidden_in}
use Rattle.complgen_check.specs.Findings.{AreErrors, Shown, shown, shown_double}
use Rattle.complgen_check.specs.declared.errors.checking.Checked.{Checked}
use Rattle.complgen_check.specs.declared.errors.checking.Checked.TheVariants.{Errors, Tree as Reads}

-- the bytes describe no command
abbrev pub DescribesNone : List ℕ → Type 0
DescribesNone bytes = (command : Tree) → Describes bytes (Some command) → ⊥

-- what is said of the hidden members of a JSON value: one warning for each, in the order of the
-- text, and nothing else
abbrev pub hidden_list : Json → List Shown
hidden_list j = map shown_double (hidden_in [] j)

-- the bytes spell JSON, and this is said of its hidden members
pub record SaysHidden (bytes : List ℕ) (said : List Shown) : Type 0 where
  pub json : Json
  pub spells : SpellsJson bytes json
  pub each : said ≡ hidden_list json

-- a check of a JSON value returns the command that it describes, with the warnings about hidden
-- members; or errors, at least one, if it describes none
abbrev pub ChecksValue : Json → Checked → Type 0
ChecksValue j (Reads command doubles source) =
    (command_of (data_of j) ≡ Some command) × (map shown doubles.items ≡ hidden_list j)
ChecksValue j (Errors errors) = AreErrors errors.items × (command_of (data_of j) ≡ None)

-- a check of bytes returns the command that they describe, with the warnings about hidden members;
-- or errors, at least one, if they describe none
abbrev pub Checks : List ℕ → Checked → Type 0
Checks bytes (Reads command doubles source) =
    Describes bytes (Some command) × SaysHidden bytes (map shown doubles.items)
Checks bytes (Errors errors) = AreErrors errors.items × DescribesNone bytes
