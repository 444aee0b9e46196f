-- If there are only notes, the premises hold. A warning says so exactly if one does not hold.
use Rattle.std.proofs.Common.{◌≡◌, ◌∙◌, ap, ap₂, subst, sym, refl, is_none, ℕ, ◌&&◌, IsTrue, List, Option, Some, None, unwrap_or}
use Rattle.std.specs.List.{list_all}
use Rattle.std.proofs.lemmas.Bool.{and_parts}
use Rattle.cc_bash.specs.Labels.{shared_label}
use Rattle.cc_command.specs.Escaped.{is_escaped_tree}
use Rattle.cc_command.specs.Plain.{is_plain_argument, is_plain_forest, is_plain_node, is_plain_tree, passes_if_some, siblings_differ}
use Rattle.cc_command.specs.Quiet.{is_quiet_tree}
use Rattle.cc_command.specs.Tree.{Tree}
use Rattle.cc_base.specs.PlainName.{is_plain_name}
use Rattle.cc_command.proofs.EscapedBuilt.{escaped_built_under}
use Rattle.complgen_lints.specs.Lists.{is_nil}
use Rattle.complgen_lints.specs.Notes.{are_notes}
use Rattle.complgen_lints.specs.PremiseList.{premise_list}
use Rattle.complgen_lints.specs.Premises.{holds_premises, name_no_premise, premises_in}
use Rattle.complgen_lints.specs.declared.warning.Warning.{Warning}
use Rattle.complgen_lints.proofs.PremisesFound.{named_exactly as command_exactly}
use Rattle.complgen_lints.proofs.Walked.{nil_append, notes_none}
use Rattle.complgen_check.specs.Promises.{HoldPremises, holds_each}
use Rattle.complgen_check.specs.TreeWarnings.{ReportPremises, built_as, called, label_list}

no_label : (label : Option (List ℕ)) → IsTrue (is_none label) → label ≡ None
no_label None h = refl
no_label (Some label) h = cc

-- the name by which a program is called is plain
plain_called : (bin own : Option (List ℕ)) (name : List ℕ) → IsTrue (passes_if_some is_plain_name bin) →
    IsTrue (passes_if_some is_plain_name own) → IsTrue (is_plain_name name) →
    IsTrue (is_plain_name (unwrap_or bin (unwrap_or own name)))
plain_called (Some bin) own name given owned named = given
plain_called None (Some own) name given owned named = owned
plain_called None None name given owned named = named

premises_hold : (bin : Option (List ℕ)) (tree : Tree) → IsTrue (holds_each bin tree) → HoldPremises bin tree
premises_hold bin tree h =
    let parts = and_parts (holds_premises bin tree) (is_none (shared_label (built_as bin tree))) h in
    let given = and_parts (passes_if_some is_plain_name bin) (is_plain_tree tree && (is_quiet_tree tree && is_escaped_tree tree))
    parts.0 in
    let plain = and_parts (is_plain_tree tree) (is_quiet_tree tree && is_escaped_tree tree) given.1 in
    let quiet = and_parts (is_quiet_tree tree) (is_escaped_tree tree) plain.1 in
    let own = and_parts (passes_if_some is_plain_name tree.node.bin_name) (is_plain_node tree.node && (siblings_differ tree.children && is_plain_forest tree.children)) plain.0 in
    let node = and_parts (is_plain_node tree.node) (siblings_differ tree.children && is_plain_forest tree.children) own.1 in
    let named = and_parts (is_plain_name tree.node.name) (list_all is_plain_name tree.node.visible_aliases && (list_all is_plain_name tree.node.aliases && list_all is_plain_argument tree.node.arguments)) node.0 in
    let name = plain_called bin tree.node.bin_name tree.node.name given.0 own.0 named.0 in
    record {
      plain = plain.0;
      name = name;
      quiet = quiet.0;
      escaped = escaped_built_under (Some (called bin tree)) tree quiet.1;
      label = no_label (shared_label (built_as bin tree)) parts.1;
    }

label_named : (label : Option (List ℕ)) → name_no_premise (label_list label) ≡ is_none label
label_named None = refl
label_named (Some label) = refl

-- a premise is reported exactly if one does not hold
pub named_exactly : (bin : Option (List ℕ)) (tree : Tree) (warnings : List Warning) →
    ReportPremises bin tree warnings → name_no_premise warnings ≡ holds_each bin tree
named_exactly bin tree warnings reports =
    let label = shared_label (built_as bin tree) in
    ap is_nil reports ∙ nil_append (premise_list bin tree) (premises_in (label_list label))
    ∙ ap₂ (λ a b. a && b) (command_exactly bin tree) (label_named label)

-- if all warnings are notes, each premise holds
pub notes_hold : (bin : Option (List ℕ)) (tree : Tree) (warnings : List Warning) →
    ReportPremises bin tree warnings → IsTrue (are_notes warnings) → HoldPremises bin tree
notes_hold bin tree warnings reports notes = premises_hold bin tree
    (subst IsTrue (ap is_nil (sym (notes_none warnings notes)) ∙ named_exactly bin tree warnings reports) refl)
