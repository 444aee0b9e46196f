-- The tree that building makes.
use Rattle.std.specs.Prelude.{ℕ, suc, List, [], ◌∷◌, ◌++◌, Bool, true, not, if◌then◌else◌, ◌&&◌, Option, Some, is_some, map, filter}
use Rattle.cc_arg.specs.declared.parts.ArgParts.{ArgParts as Arg}
use Rattle.cc_arg.specs.Arguments.{filled, is_positional}
use Rattle.cc_command.specs.declared.node.Node.{Node}
use Rattle.cc_command.specs.Tree.{Forest, none, more, join, Tree}
use Rattle.cc_command.specs.Names.{has_id, full_name, joined_name}
use Rattle.cc_command.specs.Generated.{generated_arguments, help_child}

-- the arguments, then each of the others whose id is still missing
abbrev pub with_missing : List Arg → List Arg → List Arg
with_missing arguments [] = arguments
with_missing arguments (other ∷ others) =
    with_missing (if has_id arguments other.id then arguments else arguments ++ other ∷ []) others

-- the argument is a positional whose index is not set
abbrev pub lacks_index : Arg → Bool
lacks_index argument = is_positional argument && not (is_some argument.index)

-- the argument with this index, if it lacks one
abbrev pub with_index : ℕ → Arg → Arg
with_index number argument =
    if lacks_index argument then record argument { index = Some number } else argument

-- the next index after an argument
abbrev pub next_index : ℕ → Arg → ℕ
next_index number argument = if lacks_index argument then suc number else number

-- the arguments; the positionals that lack an index get the next ones, in order
abbrev pub indexed : ℕ → List Arg → List Arg
indexed number [] = []
indexed number (argument ∷ arguments) =
    with_index number argument ∷ indexed (next_index number argument) arguments

-- the arguments that a node inherits: none if building made it
abbrev pub inherited_by : Node → List Arg → List Arg
inherited_by node inherited = if node.generated then [] else inherited

-- the arguments of a node before building adds flags: its own, then those that it inherits
abbrev pub given_arguments : List Arg → Node → List Arg
given_arguments inherited node = with_missing node.arguments (inherited_by node inherited)

-- the arguments that are global, in order
abbrev pub globals : List Arg → List Arg
globals arguments = filter (λ argument. argument.global) arguments

-- the arguments that the children of a node inherit: the global ones among its own and those that
-- it inherits
abbrev pub propagated : List Arg → Node → List Arg
propagated inherited node = globals (given_arguments inherited node)

-- the given arguments of a node, then `help`, then `version`, each with its range, its action and
-- its index
abbrev pub finished : Node → List Arg → List Arg
finished node given = indexed 1 (map filled (with_missing given (generated_arguments node)))

-- the arguments of a built node
abbrev pub built_arguments : List Arg → Node → List Arg
built_arguments inherited node = finished node (given_arguments inherited node)

-- a built node with this bin name
abbrev pub built_node : List Arg → Option (List ℕ) → Node → Node
built_node inherited bin_name node =
    record node { bin_name = bin_name; arguments = built_arguments inherited node; built = true }

-- built siblings, under a parent of this full name that propagates these arguments. Each is named
-- after the parent, and its children are its own, then the generated `help`.
abbrev pub built_forest : List Arg → List ℕ → Forest → Forest
built_forest inherited parent none = none
built_forest inherited parent (more node below rest) =
    more (built_node inherited (Some (joined_name parent node.name)) node)
    (join (built_forest (propagated inherited node) (joined_name parent node.name) below)
    (help_child (joined_name parent node.name) node below))
    (built_forest inherited parent rest)

-- a built tree with this optional bin name, under a parent that propagates these arguments
abbrev pub built_below : List Arg → Option (List ℕ) → Tree → Tree
built_below inherited bin_name tree = record {
  node = built_node inherited bin_name tree.node;
  children = join (built_forest (propagated inherited tree.node)
      (full_name (record tree.node { bin_name = bin_name })) tree.children)
      (help_child (full_name (record tree.node { bin_name = bin_name })) tree.node tree.children);
}

-- a built tree with this optional bin name
abbrev pub built_under : Option (List ℕ) → Tree → Tree
built_under bin_name tree = built_below [] bin_name tree

-- a built tree, whose root keeps its bin name
abbrev pub built_tree : Tree → Tree
built_tree tree = built_under tree.node.bin_name tree
