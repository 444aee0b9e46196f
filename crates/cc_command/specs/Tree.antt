-- The tree by which clauses see a command: nodes, each with its children in order.
use Rattle.std.specs.Prelude.{◌≡◌, ◌⊎◌, ℕ, ◌+◌, ◌≤◌, List, [], ◌∷◌, Bool, true, false}
use Rattle.std.proofs.Common.{arith}
use denote.Param.Weighed.{most}
use Rattle.cc_command.specs.declared.node.Node.{Node}

-- siblings: the first node, the nodes below it, and the siblings after it
pub data Forest : Type 0 where
  none : Forest
  more : Node → Forest → Forest → Forest

-- a node with its children
pub record Tree : Type 0 where
  pub node : Node
  pub children : Forest

-- the forest of some trees, in their order
abbrev pub forest_of : List Tree → Forest
forest_of [] = none
forest_of (tree ∷ trees) = more tree.node tree.children (forest_of trees)

-- the siblings of one forest, then those of another
abbrev pub join : Forest → Forest → Forest
join none later = later
join (more node below rest) later = more node below (join rest later)

-- one of the siblings, with all nodes below it
abbrev pub IsSibling : Forest → Tree → Type 0
IsSibling none tree = ⊥
IsSibling (more node below rest) tree =
    (record { node = node; children = below } ≡ tree) ⊎ IsSibling rest tree

-- a forest has a node
abbrev pub has_nodes : Forest → Bool
has_nodes none = false
has_nodes (more node below rest) = true

-- the number of nodes in a forest
abbrev pub forest_size : Forest → ℕ
forest_size none = 0
forest_size (more node below rest) = 1 + forest_size below + forest_size rest

-- the number of nodes below the root
abbrev pub tree_size : Tree → ℕ
tree_size tree = forest_size tree.children

-- each tree is smaller than the forest of all trees
pub most_le-forest_size : (trees : List Tree) → most (λ tree. tree_size tree + 1) trees
    ≤ forest_size (forest_of trees)
most_le-forest_size [] = omega arith
most_le-forest_size (tree ∷ trees) = omega (arith, most_le-forest_size trees)
