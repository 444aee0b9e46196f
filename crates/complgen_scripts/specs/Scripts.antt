-- The script for the command of a tree file, and the case without a script.
use Rattle.std.specs.Prelude.{◌≡◌, ℕ, List, Option, Some, None, IsTrue}
use Rattle.cc_command.specs.Built.{built_under}
use Rattle.cc_base.specs.declared.error.Error.TheVariants.{LabelClash}
use Rattle.cc_command.specs.Plain.{is_plain_tree}
use Rattle.cc_base.specs.PlainName.{is_plain_name}
use Rattle.cc_shell.specs.declared.shell.Shell.{Shell}
use Rattle.cc_shell.specs.Shells.{shell_spec}
use Rattle.cc_command.specs.Tree.{Tree}
use Rattle.complgen_scripts.specs.declared.refusals.Refusal.{Refusal}
use Rattle.complgen_scripts.specs.Refusals.{IsMade, shown_line}
use Rattle.complgen_tree_file.specs.TreeFile.{HoldsTree}

-- two nodes of the command, built under the bin name, would share this label, and that is reported
pub record SharesLabel (shell : Shell) (bin : List ℕ) (tree : Tree) (refusal : Refusal)
    : Type 0 where
  pub label : List ℕ
  pub shared : (shell_spec shell).clash (built_under (Some bin) tree) ≡ Some label
  pub reported : IsMade (shown_line (LabelClash label)) refusal

-- the text is the script of the command built under the bin name, and no two nodes share a label
pub record IsScript (shell : Shell) (bin : List ℕ) (tree : Tree) (text : List ℕ) : Type 0 where
  pub unshared : (shell_spec shell).clash (built_under (Some bin) tree) ≡ None
  pub is : text ≡ (shell_spec shell).script (built_under (Some bin) tree)

-- the file holds a command whose script reads back if the command and the bin name are plain
pub record ScriptReads (shell : Shell) (bin : List ℕ) (file : Option (List ℕ)) : Type 0 where
  pub tree : Tree
  pub held : HoldsTree file tree
  pub reads : IsTrue (is_plain_tree tree) → IsTrue (is_plain_name bin)
      → (shell_spec shell).Reads (built_under (Some bin) tree)
