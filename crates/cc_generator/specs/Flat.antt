-- The nodes of a tree in one list, each with a number.
use Rattle.std.specs.Prelude.{◌≡◌, ℕ, ◌+◌, ◌-◌, ◌<◌, ◌≤◌, List, [], ◌∷◌, length, map, Option, Some, None, slice_index_or}
use Rattle.std.specs.List.{range_with_len}
use Rattle.cc_command.specs.Tree.{Forest, none, more, Tree, forest_of, forest_size}
use Rattle.cc_command.specs.Made.{new_tree}
use Rattle.cc_generator.specs.declared.flat.FlatNode.{FlatNode}

-- the trees of a forest, in order
abbrev pub trees_of : Forest → List Tree
trees_of none = []
trees_of (more node below rest) = (record { node = node; children = below }) ∷ trees_of rest

-- the facts about one node
pub record Entry : Type 0 where
  -- the node with everything below it
  pub tree : Tree
  -- the number of its parent; the root has none
  pub parent : Option ℕ
  -- the number of its first child; the others have the numbers after it
  pub first_child : ℕ
  -- the number of its children
  pub child_count : ℕ

-- the facts that a stored node records
abbrev pub entry_of : FlatNode → Entry
entry_of node = record {
  tree = node.command.now;
  parent = node.parent;
  first_child = node.first_child;
  child_count = node.child_count;
}

-- the facts that stored nodes record, by number
abbrev pub entries_of : List FlatNode → List Entry
entries_of nodes = map entry_of nodes

-- the entry for a number without a node: an empty tree
unfoldable pub no_entry : Entry
no_entry = record { tree = new_tree []; parent = None; first_child = 0; child_count = 0 }

-- the entry of the node with a number
abbrev pub entry_at : List Entry → ℕ → Entry
entry_at flat number = slice_index_or flat number no_entry

-- the tree at a number
abbrev pub tree_at : List Entry → ℕ → Tree
tree_at flat number = (entry_at flat number).tree

-- the trees at some numbers
abbrev pub trees_at : List Entry → List ℕ → List Tree
trees_at flat numbers = map (tree_at flat) numbers

-- the numbers from `start` up to `end`, without `end`
abbrev pub numbers_between : ℕ → ℕ → List ℕ
numbers_between start end = range_with_len start (end - start)

-- the numbers of a node's children, in order
abbrev pub children_at : List Entry → ℕ → List ℕ
children_at flat number =
    range_with_len (entry_at flat number).first_child (entry_at flat number).child_count

-- the number is that of a child of a node
pub record IsChildAt (flat : List Entry) (number child : ℕ) : Type 0 where
  pub low : (entry_at flat number).first_child ≤ child
  pub high : child < (entry_at flat number).first_child + (entry_at flat number).child_count

-- The children of the node with a number are those of its tree, in order. Their numbers are in the
-- list, after its own number, and it is their parent.
pub record HasItsChildren (flat : List Entry) (number : ℕ) : Type 0 where
  pub forest : forest_of (trees_at flat (children_at flat number)) ≡ (tree_at flat number).children
  pub after : number < (entry_at flat number).first_child
  pub within : (entry_at flat number).first_child + (entry_at flat number).child_count ≤ length flat
  pub parent : (child : ℕ) → IsChildAt flat number child → (entry_at flat child).parent
      ≡ Some number

-- the node with a number is a child of an earlier node
pub record HasItsParent (flat : List Entry) (number : ℕ) : Type 0 where
  pub parent : ℕ
  pub is : (entry_at flat number).parent ≡ Some parent
  pub before : parent < number
  pub child : IsChildAt flat parent number

-- the list contains each node of the tree at number 0 once
pub record IsFlat (flat : List Entry) : Type 0 where
  pub root : (entry_at flat 0).parent ≡ None
  pub size : length flat ≡ 1 + forest_size (tree_at flat 0).children
  pub children : (number : ℕ) → number < length flat → HasItsChildren flat number
  pub parents : (number : ℕ) → 0 < number → number < length flat → HasItsParent flat number
