-- The visible paths of a tree: names that lead from the root down. Each name is the name or a
-- visible alias of a child of the node before it.
use Rattle.std.specs.Prelude.{◌≡◌, ◌↔◌, ℕ, List, [], ◌∷◌, Contains}
use Rattle.cc_base.specs.Differ.{AllDifferBy}
use Rattle.cc_command.specs.declared.node.Node.{Node}
use Rattle.cc_command.specs.Names.{visible_names}
use Rattle.cc_command.specs.Tree.{Tree, IsSibling}
use Rattle.cc_generator.specs.Visits.{Keyed}

-- the path leads from the tree `from`, with the node `above` above it, down to the tree `to` and
-- the node `parent` above that
abbrev pub LeadsTo : Node → Tree → List (List ℕ) → Node → Tree → Type 0
LeadsTo above from [] parent to = (above ≡ parent) × (from ≡ to)
LeadsTo above from (name ∷ names) parent to =
    (child : Tree) × (IsSibling from.children child
    × (Contains (visible_names child.node) name × LeadsTo from.node child names parent to))

-- The key of the visit is a visible path. It leads from the root to the visited node and the node
-- above it. The node above the root is the root itself.
abbrev pub IsVisiblePath : Tree → Keyed (List (List ℕ)) → Type 0
IsVisiblePath tree visit = LeadsTo tree.node tree visit.key visit.above visit.tree

-- The visits are exactly the visible paths of the tree, each with the nodes to which it leads. No
-- path is visited twice.
pub record CoversPaths (tree : Tree) (visits : List (Keyed (List (List ℕ)))) : Type 0 where
  pub paths : (visit : Keyed (List (List ℕ))) → Contains visits visit ↔ IsVisiblePath tree visit
  pub once : AllDifferBy (λ visit. visit.key) visits
