-- The walk through a tree by visible names, and the labels on its way.
use Rattle.std.specs.Prelude.{ℕ, suc, List, [], ◌∷◌, ◌++◌, length, Some, None}
use Rattle.cc_command.specs.Tree.{Forest, none, more, Tree}
use Rattle.cc_command.specs.Names.{visible_child}
use Rattle.cc_bash.specs.Labels.{child_label}

-- a node with everything below it, and the names of the nodes that lead to it from the root
pub record PathNode : Type 0 where
  pub path : List (List ℕ)
  pub tree : Tree

-- a word leads from a node to the child that shows it as a name; any other word stays at the node
abbrev pub next_path_node : PathNode → List ℕ → PathNode
next_path_node here word = elim (visible_child here.tree.children word) [
  | Some child ↦ record { path = here.path ++ child.node.name ∷ []; tree = child }
  | None ↦ here
]

-- the node, and the nodes after each of the words
abbrev pub path_nodes : PathNode → List (List ℕ) → List PathNode
path_nodes here [] = here ∷ []
path_nodes here (word ∷ words) = here ∷ path_nodes (next_path_node here word) words

-- the node after all words
abbrev pub walk : PathNode → List (List ℕ) → PathNode
walk here [] = here
walk here (word ∷ words) = walk (next_path_node here word) words

-- the root
abbrev pub root_path_node : Tree → PathNode
root_path_node tree = record { path = []; tree = tree }

-- siblings below a path, with their paths: a node, the nodes below it, then the siblings after it
abbrev pub path_nodes_below : List (List ℕ) → Forest → List PathNode
path_nodes_below path none = []
path_nodes_below path (more node below rest) =
    let own : List (List ℕ) = path ++ node.name ∷ [] in
    let here : PathNode = record {
      path = own;
      tree = record { node = node; children = below };
    } in
    here ∷ (path_nodes_below own below ++ path_nodes_below path rest)

-- all nodes of a tree, the root first
abbrev pub all_path_nodes : Tree → List PathNode
all_path_nodes tree = root_path_node tree ∷ path_nodes_below [] tree.children

-- the label of the node to which some names lead, below a node with the given label
abbrev pub label_at : List ℕ → List (List ℕ) → List ℕ
label_at label [] = label
label_at label (name ∷ names) = label_at (child_label label name) names

-- the number of names that lead to a node, including the root's
abbrev pub level_of : PathNode → ℕ
level_of here = suc (length here.path)
