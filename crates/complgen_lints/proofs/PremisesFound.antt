-- Something is found exactly if a premise does not hold.
use Rattle.std.proofs.Common.{◌≡◌, ◌∙◌, ap, ap₂, refl, subst, sym, ℕ, suc, Bool, true, false, ◌&&◌, IsTrue, List, [], ◌∷◌, ◌++◌, map, Option, Some, None}
use Rattle.std.proofs.Math.Bool.{and_assoc}
use Rattle.cc_base.specs.PlainName.{is_plain_name}
use Rattle.cc_command.specs.Escaped.{is_escaped_forest, is_escaped_node, is_escaped_tree}
use Rattle.cc_command.specs.Plain.{is_plain_forest, is_plain_node, passes_if_some, siblings_differ}
use Rattle.cc_command.specs.Quiet.{is_quiet_forest, is_quiet_node, is_quiet_tree}
use Rattle.cc_command.specs.Tree.{Forest, none, more, Tree}
use Rattle.complgen_lints.specs.Findings.{placed_finding}
use Rattle.complgen_lints.specs.Lists.{is_nil}
use Rattle.complgen_lints.specs.Notes.{are_notes}
use Rattle.complgen_lints.specs.PremiseList.{bin_list, forest_list, premise_list, premises_of, tree_list}
use Rattle.complgen_lints.specs.Premises.{holds_premises, premises_in}
use Rattle.complgen_lints.specs.SiblingNames.{taken_names}
use Rattle.complgen_lints.specs.TextLints.{text_list}
use Rattle.complgen_lints.specs.declared.place.Key.{Key}
use Rattle.complgen_lints.specs.declared.text_lints.TextLint.TheVariants.{Plain, Quiet, Quotes}
use Rattle.complgen_lints.specs.declared.warning.Warning.{Warning}
use Rattle.complgen_lints.proofs.TextsFound.{escaped_command, plain_command, plain_test, quiet_command}
use Rattle.complgen_lints.proofs.Walked.{nil_append, notes_none, placed_nil, unless_nil}

-- ---- three tests of two things, in pairs

exchanged : (a b c d : Bool) → ((a && b) && (c && d)) ≡ ((a && c) && (b && d))
exchanged false b c d = refl
exchanged true true c d = refl
exchanged true false true d = refl
exchanged true false false d = refl

in_pairs : (a b c d e f : Bool) → (((a && b) && c) && ((d && e) && f)) ≡ (((a && d) && (b && e)) && (c && f))
in_pairs a b c d e f =
    exchanged (a && b) c (d && e) f ∙ ap (λ both. both && (c && f)) (exchanged a b d e)

-- ---- a command, and those below it

-- the tests of a command by itself
abbrev holds_alone : Tree → Bool
holds_alone tree = (plain_test tree && is_quiet_node tree.node) && is_escaped_node tree.node

abbrev holds_below : Forest → Bool
holds_below forest = (is_plain_forest forest && is_quiet_forest forest) && is_escaped_forest forest

alone_only : (path : List ℕ) (tree : Tree) → is_nil (map (placed_finding path) (premises_of tree)) ≡ holds_alone tree
alone_only path tree =
    let names = text_list Plain tree ++ taken_names tree.children in
    placed_nil path (premises_of tree)
    ∙ nil_append (names ++ text_list Quiet tree) (text_list Quotes tree)
    ∙ ap₂ (λ a b. a && b)
    (nil_append names (text_list Quiet tree)
    ∙ ap₂ (λ a b. a && b) (plain_command tree) (quiet_command tree))
    (escaped_command tree)

below_only : (path : List ℕ) (index : ℕ) (forest : Forest) → is_nil (forest_list path index forest) ≡ holds_below forest
below_only path index none = refl
below_only path index (more node below rest) =
    let here = path ++ index ∷ [] in
    let tree : Tree = record { node = node; children = below } in
    let own = map (placed_finding here) (premises_of tree) in
    let under = forest_list here 0 below in
    let plain = plain_test tree in
    let quiet = is_quiet_node node in
    let escaped = is_escaped_node node in
    nil_append (own ++ under) (forest_list path (suc index) rest)
    ∙ ap₂ (λ a b. a && b)
    (nil_append own under ∙ ap₂ (λ a b. a && b) (alone_only here tree) (below_only here 0 below)
    ∙ in_pairs plain quiet escaped (is_plain_forest below) (is_quiet_forest below) (is_escaped_forest below))
    (below_only path (suc index) rest)
    ∙ in_pairs (plain && is_plain_forest below) (quiet && is_quiet_forest below) (escaped && is_escaped_forest below)
    (is_plain_forest rest) (is_quiet_forest rest) (is_escaped_forest rest)
    ∙ ap₂ (λ a b. a && b)
    (ap₂ (λ a b. a && b)
    (and_assoc plain (is_plain_forest below) (is_plain_forest rest)
    ∙ and_assoc (is_plain_node node) (siblings_differ below) (is_plain_forest below && is_plain_forest rest))
    (and_assoc quiet (is_quiet_forest below) (is_quiet_forest rest)))
    (and_assoc escaped (is_escaped_forest below) (is_escaped_forest rest))

-- ---- a whole tree

bin_only : (key : Option Key) (bin : Option (List ℕ)) → is_nil (bin_list key bin) ≡ passes_if_some is_plain_name bin
bin_only key None = refl
bin_only key (Some name) = unless_nil (is_plain_name name) _

-- the tests of a tree, with that of its bin name
in_a_row : (bin own plain quiet escaped : Bool) →
    ((bin && own) && ((plain && quiet) && escaped)) ≡ (bin && ((own && plain) && (quiet && escaped)))
in_a_row bin own plain quiet escaped =
    ap (λ rest. (bin && own) && rest) (and_assoc plain quiet escaped)
    ∙ and_assoc bin own (plain && (quiet && escaped))
    ∙ ap (λ rest. bin && rest) (sym (and_assoc own plain (quiet && escaped)))

pub named_exactly : (bin : Option (List ℕ)) (tree : Tree) → is_nil (premise_list bin tree) ≡ holds_premises bin tree
named_exactly bin tree =
    let node = tree.node in
    let given = bin_list None bin in
    let named = bin_list (Some Key.BinName) node.bin_name in
    let own = map (placed_finding []) (premises_of tree) in
    let plain = is_plain_forest tree.children in
    let gives = passes_if_some is_plain_name bin in
    let names = passes_if_some is_plain_name node.bin_name in
    nil_append (given ++ named) (tree_list [] tree)
    ∙ ap₂ (λ a b. a && b)
    (nil_append given named ∙ ap₂ (λ a b. a && b) (bin_only None bin) (bin_only (Some Key.BinName) node.bin_name))
    (nil_append own (forest_list [] 0 tree.children)
    ∙ ap₂ (λ a b. a && b) (alone_only [] tree) (below_only [] 0 tree.children)
    ∙ in_pairs (plain_test tree) (is_quiet_node node) (is_escaped_node node)
    plain (is_quiet_forest tree.children) (is_escaped_forest tree.children))
    ∙ in_a_row gives names (plain_test tree && plain) (is_quiet_tree tree) (is_escaped_tree tree)
    ∙ ap (λ test. gives && ((names && test) && (is_quiet_tree tree && is_escaped_tree tree)))
    (and_assoc (is_plain_node node) (siblings_differ tree.children) plain)

-- if all warnings are notes, each premise holds
pub notes_hold : (bin : Option (List ℕ)) (tree : Tree) (warnings : List Warning) →
    premises_in warnings ≡ premise_list bin tree → IsTrue (are_notes warnings) → IsTrue (holds_premises bin tree)
notes_hold bin tree warnings is notes =
    subst IsTrue (ap is_nil (sym (notes_none warnings notes) ∙ is) ∙ named_exactly bin tree) refl
