-- A list of candidates for the arguments of a command, given to its node and to its children.
use Rattle.std.proofs.Common.{◌≡◌, List, [], ◌∷◌, map, refl, ap, ◌∙◌}
use Rattle.cc_arg.specs.declared.parts.ArgParts.{ArgParts as Arg}
use Rattle.cc_arg.specs.declared.value_source.SourceValues.{SourceValues}
use Rattle.cc_command.specs.declared.node.Node.{Node}
use Rattle.cc_command.specs.Tree.{Forest, more, Tree, forest_of}
use Rattle.cc_command.specs.ValueLists.{listed_forest, listed_node, listed_tree}

-- in each tree is in the forest of all
listed_trees : (asked : Arg) (list : SourceValues) (trees : List Tree)
    → forest_of (map (listed_tree asked list) trees) ≡ listed_forest asked list (forest_of trees)
listed_trees asked list [] = refl
listed_trees asked list (tree ∷ trees) =
    ap (more (listed_node asked list tree.node) (listed_forest asked list tree.children))
    (listed_trees asked list trees)

abbrev pub tree_of : Node → Forest → Tree
tree_of node children = record { node = node; children = children }

-- the node with the list, over the children with the list, is the tree with the list
pub listed_parts : (asked : Arg) (list : SourceValues) (tree : Tree) (node new_node : Node) (children new_children kept : List Tree)
    → tree_of node (forest_of children) ≡ tree
    → new_node ≡ listed_node asked list node
    → new_children ≡ map (listed_tree asked list) children
    → kept ≡ new_children
    → tree_of new_node (forest_of kept) ≡ listed_tree asked list tree
listed_parts asked list tree node new_node children new_children kept is node_is children_are kept_are =
    ap (λ node. tree_of node (forest_of kept)) node_is
    ∙ ap (λ trees. tree_of (listed_node asked list node) (forest_of trees)) (kept_are ∙ children_are)
    ∙ ap (tree_of (listed_node asked list node)) (listed_trees asked list children)
    ∙ ap (listed_tree asked list) is
