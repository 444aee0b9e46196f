-- The effects of a call that writes a bash script only for plain commands with quiet values.
use Rattle.std.specs.Prelude.{◌≡◌, ℕ, List, ◌++◌, Bool, true, false, Some, Result, Ok, ⊤}
use Rattle.clap_complete.specs.cc_bash.Arms.{tree_arms}
use Rattle.clap_complete.specs.cc_bash.CaseTable.{tree_cases}
use Rattle.clap_complete.specs.cc_bash.Labels.{root_label}
use Rattle.clap_complete.specs.cc_bash.Reader.{bash_table}
use Rattle.clap_complete.specs.cc_bash.Script.{bash_script}
use Rattle.clap_complete.specs.cc_base.declared.error.Error.{Error}
use Rattle.clap_complete.specs.cc_command.Tree.{Tree}

-- the script of the tree is written, and reads back to the tree's cases and arms
pub record TakesTable (old new : List ℕ) (tree : Tree) : Type 0 where
  pub taken : new ≡ old ++ bash_script tree
  pub table : bash_table (bash_script tree)
      ≡ Some (record { root = root_label tree; cases = tree_cases tree; arms = tree_arms tree })

-- On `Ok(true)`, the script is written, and reads back to the table. On `Ok(false)`, nothing is
-- written.
abbrev pub TakesQuiet : Result Bool Error → List ℕ → List ℕ → Tree → Type 0
TakesQuiet (Ok true) old new tree = TakesTable old new tree
TakesQuiet (Ok false) old new tree = new ≡ old
TakesQuiet _ old new tree = ⊤
