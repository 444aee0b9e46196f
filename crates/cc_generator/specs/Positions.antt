-- The nodes after a position in a numbered tree, in preorder.
use Rattle.std.specs.Prelude.{◌≡◌, ℕ, zero, suc, ◌+◌, ◌<◌, List, [], ◌∷◌, ◌++◌, length, Option, Some, None, unwrap_or}
use Rattle.std.specs.Option.{option_and_then}
use Rattle.cc_command.specs.Tree.{forest_of}
use Rattle.cc_generator.specs.Flat.{Entry, entry_at, tree_at, trees_at, numbers_between}
use Rattle.cc_generator.specs.Preorder.{Levelled, preorder}
use Rattle.cc_generator.specs.declared.preorder.Cursor.{Cursor}

-- the number of a node's parent
abbrev pub parent_at : List Entry → ℕ → ℕ
parent_at flat number = unwrap_or (entry_at flat number).parent 0

-- the number after those of a node's children
abbrev pub children_end : List Entry → ℕ → ℕ
children_end flat number = (entry_at flat number).first_child + (entry_at flat number).child_count

-- the node with which the path to a node begins, if that path has `level` names
abbrev pub path_start : List Entry → ℕ → ℕ → Option ℕ
path_start flat zero number = None
path_start flat (suc zero) number = Some number
path_start flat (suc (suc level)) number =
    option_and_then (path_start flat (suc level)) (entry_at flat number).parent

-- the number is that of a node, and its path from the root has as many names as the level says
pub record IsAt (flat : List Entry) (position : Cursor) : Type 0 where
  pub listed : position.number < length flat
  pub level : path_start flat position.level position.number ≡ Some 0

-- the nodes with these numbers, which are siblings at this level, each with everything below it
abbrev pub preorder_at : List Entry → ℕ → List ℕ → List Levelled
preorder_at flat level numbers = preorder level (forest_of (trees_at flat numbers))

-- The nodes after a node at this level and everything below it: its later siblings, then the nodes
-- after its parent.
abbrev pub later_nodes : List Entry → ℕ → ℕ → List Levelled
later_nodes flat zero number = []
later_nodes flat (suc zero) number = []
later_nodes flat (suc (suc level)) number =
    preorder_at flat (suc (suc level))
    (numbers_between (number + 1) (children_end flat (parent_at flat number)))
    ++ later_nodes flat (suc level) (parent_at flat number)

-- the nodes after a node at this level
abbrev pub nodes_after : List Entry → ℕ → ℕ → List Levelled
nodes_after flat level number =
    preorder (suc level) (tree_at flat number).children ++ later_nodes flat level number

-- the nodes from a node at this level on
abbrev pub nodes_from : List Entry → ℕ → ℕ → List Levelled
nodes_from flat level number =
    (let node : Levelled = record { level = level; tree = tree_at flat number } in node)
    ∷ nodes_after flat level number

-- the nodes are those from a position on; without a position there are none
abbrev pub BeginsAt : List Entry → List Levelled → Option Cursor → Type 0
BeginsAt flat nodes None = nodes ≡ []
BeginsAt flat nodes (Some position) =
    IsAt flat position × (nodes ≡ nodes_from flat position.level position.number)
