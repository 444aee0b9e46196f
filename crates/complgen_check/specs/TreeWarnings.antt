-- The premises of the promises about scripts that warnings about a tree report, if it is called by a
-- bin name.
use Rattle.std.specs.Prelude.{◌≡◌, ℕ, List, [], ◌∷◌, ◌++◌, Option, Some, None, unwrap_or}
use Rattle.cc_bash.specs.Labels.{shared_label}
use Rattle.cc_command.specs.Built.{built_under}
use Rattle.cc_command.specs.Names.{full_name}
use Rattle.cc_command.specs.Tree.{Tree}
use Rattle.complgen_lints.specs.PremiseList.{premise_list}
use Rattle.complgen_lints.specs.Premises.{premises_in}
use Rattle.complgen_lints.specs.declared.warning.Kind.TheVariants.{Premise}
use Rattle.complgen_lints.specs.declared.warning.Premise.TheVariants.{SharedLabel}
use Rattle.complgen_lints.specs.declared.warning.Warning.{Warning}

-- the name by which a program is called: the given one, else the tree's bin name, else its name
abbrev pub called : Option (List ℕ) → Tree → List ℕ
called bin tree = unwrap_or bin (full_name tree.node)

-- the tree built under the name by which it is called
abbrev pub built_as : Option (List ℕ) → Tree → Tree
built_as bin tree = built_under (Some (called bin tree)) tree

-- the warning about a label that two commands share, if there is one; its place is the root
abbrev pub label_list : Option (List ℕ) → List Warning
label_list None = []
label_list (Some label) = record {
  place = record { command = []; argument = None; key = None; item = None };
  kind = Premise (SharedLabel label);
} ∷ []

-- some warnings report exactly the premises that do not hold for the tree, and then a label that
-- two commands of the built tree share
abbrev pub ReportPremises : Option (List ℕ) → Tree → List Warning → Type 0
ReportPremises bin tree warnings = premises_in warnings
    ≡ premise_list bin tree ++ premises_in (label_list (shared_label (built_as bin tree)))
