-- The premises of the promises about scripts.
use Rattle.std.specs.Prelude.{◌≡◌, ◌&&◌, ℕ, Bool, List, Option, None, IsTrue, is_none}
use Rattle.cc_bash.specs.Labels.{shared_label}
use Rattle.cc_command.specs.Escaped.{is_escaped_tree}
use Rattle.cc_command.specs.Plain.{is_plain_tree}
use Rattle.cc_command.specs.Quiet.{is_quiet_tree}
use Rattle.cc_command.specs.Tree.{Tree}
use Rattle.cc_base.specs.PlainName.{is_plain_name}
use Rattle.complgen_lints.specs.Premises.{holds_premises}
use Rattle.complgen_check.specs.TreeWarnings.{built_as, called}

-- Each premise of the promises about scripts holds. The tree and the name by which it is called are
-- plain, and the possible values are quiet. The PowerShell script escapes each quote of the built
-- tree, and no two commands share a label.
pub record HoldPremises (bin : Option (List ℕ)) (tree : Tree) : Type 0 where
  pub plain : IsTrue (is_plain_tree tree)
  pub name : IsTrue (is_plain_name (called bin tree))
  pub quiet : IsTrue (is_quiet_tree tree)
  pub escaped : IsTrue (is_escaped_tree (built_as bin tree))
  pub label : shared_label (built_as bin tree) ≡ None

-- The premises about the bin name and the tree hold, and no two commands of the built tree share a
-- label.
abbrev pub holds_each : Option (List ℕ) → Tree → Bool
holds_each bin tree = holds_premises bin tree && is_none (shared_label (built_as bin tree))
