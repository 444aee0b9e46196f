-- The labels by which a bash script distinguishes the commands of a tree.
use Rattle.std.specs.Prelude.{ℕ, suc, List, [], ◌∷◌, ◌++◌, if◌then◌else◌, map, codes, Option, Some, None}
use Rattle.cc_base.specs.Bytes.{space, dash}
use Rattle.cc_quote.specs.Escapes.{replace_byte}
use Rattle.cc_command.specs.declared.node.Node.{Node}
use Rattle.cc_command.specs.Tree.{Forest, none, more, Tree}
use Rattle.cc_command.specs.Names.{contains_name, full_name}

-- the label of the root: its bin name, with `__` for each `-`
abbrev pub root_label : Tree → List ℕ
root_label tree = replace_byte dash (codes "__") (full_name tree.node)

-- the label of a child: its parent's label, `__subcmd__`, and its name with `__subcmd__` for each
-- `-`
abbrev pub child_label : List ℕ → List ℕ → List ℕ
child_label parent name =
    parent ++ codes "__subcmd__" ++ replace_byte dash (codes "__subcmd__") name

-- the text by which a node's arm is sorted: the full name, with `__subcmd__` for each space
abbrev pub sort_text : Node → List ℕ
sort_text node = replace_byte space (codes "__subcmd__") (full_name node)

-- a node below the root, with its parent's label, its own label, the text by which it is sorted,
-- and its level, which is the number of names in its path, including the root's
pub record Labelled : Type 0 where
  pub parent : List ℕ
  pub label : List ℕ
  pub sort_text : List ℕ
  pub level : ℕ
  pub tree : Tree

-- a node below a parent with the given label, at the given level
abbrev pub labelled_node : List ℕ → ℕ → Tree → Labelled
labelled_node parent level tree = record {
  parent = parent;
  label = child_label parent tree.node.name;
  sort_text = sort_text tree.node;
  level = level;
  tree = tree;
}

-- siblings at the given level below a parent with the given label: a node and everything below it,
-- then the siblings after it
abbrev pub labelled_under : List ℕ → ℕ → Forest → List Labelled
labelled_under parent level none = []
labelled_under parent level (more node below rest) =
    labelled_node parent level (record { node = node; children = below })
    ∷ (labelled_under (child_label parent node.name) (suc level) below
    ++ labelled_under parent level rest)

-- all nodes below the root
abbrev pub labelled_commands : Tree → List Labelled
labelled_commands tree = labelled_under (root_label tree) 2 tree.children

-- the labels of all nodes: the root's label, then for each child the labels of the child and of
-- everything below it
abbrev pub labels : Tree → List (List ℕ)
labels tree = root_label tree ∷ map (λ node. node.label) (labelled_commands tree)

-- the first text that occurs before it, in the same list or in `before`
abbrev pub first_again : List (List ℕ) → List (List ℕ) → Option (List ℕ)
first_again before [] = None
first_again before (text ∷ texts) =
    if contains_name before text then Some text else first_again (before ++ text ∷ []) texts

-- the label of the first node whose label an earlier node has
abbrev pub shared_label : Tree → Option (List ℕ)
shared_label tree = first_again [] (labels tree)
