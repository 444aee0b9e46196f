-- The visible paths of a plain tree have plain names and lead to plain nodes.
use Rattle.std.proofs.Common.{ℕ, IsTrue, List, [], ◌∷◌, subst}
use Rattle.std.specs.List.{AllByRecursion}
use Rattle.cc_base.proofs.Members.{IsIn-from_Contains, Contains-from_IsIn, AllByRecursion-IsIn, AllByRecursion-from_IsIn}
use Rattle.cc_command.specs.declared.node.Node.{Node}
use Rattle.cc_command.specs.Names.{visible_names}
use Rattle.cc_command.specs.Plain.{is_plain_node, is_plain_tree}
use Rattle.cc_command.specs.Tree.{Tree}
use Rattle.cc_command.proofs.PlainParts.{IsPlainBelow, IsPlainName, plain_node, plain_sibling, plain_tree}
use Rattle.cc_generator.specs.Paths.{LeadsTo, CoversPaths}
use Rattle.cc_generator.specs.Visits.{Keyed}

-- a visit whose path has plain names, and whose nodes are plain
pub record IsPlainVisit (visit : Keyed (List (List ℕ))) : Type 0 where
  pub names : AllByRecursion IsPlainName visit.key
  pub above : IsTrue (is_plain_node visit.above)
  pub tree : IsPlainBelow visit.tree

-- a path from a plain node has plain names
pub plain_names : (above : Node) (from : Tree) (path : List (List ℕ)) (parent : Node) (to : Tree) → IsPlainBelow from → LeadsTo above from path parent to → AllByRecursion IsPlainName path
plain_names above from [] parent to plain leads = tt
plain_names above from (name ∷ names) parent to plain leads =
    let child = plain_sibling from.children leads.0 plain.children leads.1.0 in (
      AllByRecursion-IsIn IsPlainName (visible_names leads.0.node) name (plain_node leads.0.node child.node).names (IsIn-from_Contains (visible_names leads.0.node) name leads.1.1.0),
      plain_names from.node leads.0 names parent to child leads.1.1.1,
    )

-- a path from a plain node leads to a plain node
pub plain_path : (above : Node) (from : Tree) (path : List (List ℕ)) (parent : Node) (to : Tree) → IsPlainBelow from → LeadsTo above from path parent to → IsPlainBelow to
plain_path above from [] parent to plain leads = subst IsPlainBelow leads.1 plain
plain_path above from (name ∷ names) parent to plain leads =
    plain_path from.node leads.0 names parent to (plain_sibling from.children leads.0 plain.children leads.1.0) leads.1.1.1

-- the node above that one is plain too
pub plain_above : (above : Node) (from : Tree) (path : List (List ℕ)) (parent : Node) (to : Tree) → IsTrue (is_plain_node above) → IsPlainBelow from →
    LeadsTo above from path parent to → IsTrue (is_plain_node parent)
plain_above above from [] parent to is plain leads = subst (λ node. IsTrue (is_plain_node node)) leads.0 is
plain_above above from (name ∷ names) parent to is plain leads =
    plain_above from.node leads.0 names parent to plain.node (plain_sibling from.children leads.0 plain.children leads.1.0) leads.1.1.1

-- visits that cover the paths of a plain tree are plain
pub plain_visits : (tree : Tree) (visits : List (Keyed (List (List ℕ)))) → IsTrue (is_plain_tree tree) → CoversPaths tree visits → AllByRecursion IsPlainVisit visits
plain_visits tree visits h covers =
    let plain = (plain_tree tree h).below in
    AllByRecursion-from_IsIn IsPlainVisit visits (λ visit at.
    let leads = (covers.paths visit).0 (Contains-from_IsIn visits visit at) in
    record {
      names = plain_names tree.node tree visit.key visit.above visit.tree plain leads;
      above = plain_above tree.node tree visit.key visit.above visit.tree plain.node plain leads;
      tree = plain_path tree.node tree visit.key visit.above visit.tree plain leads;
    })
