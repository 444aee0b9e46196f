-- Values for all arguments whose values come from one source.
use Rattle.std.specs.Prelude.{map}
use Rattle.cc_arg.specs.declared.parts.ArgParts.{ArgParts as Arg}
use Rattle.cc_arg.specs.ValueSources.{listed}
use Rattle.cc_arg.specs.declared.value_source.SourceValues.{SourceValues}
use Rattle.cc_command.specs.declared.node.Node.{Node}
use Rattle.cc_command.specs.Tree.{Forest, none, more, Tree}

-- the node with the values at each argument whose values come from where those of `asked` do; it
-- keeps its mark
abbrev pub listed_node : Arg → SourceValues → Node → Node
listed_node asked values node =
    record node { arguments = map (listed asked values) node.arguments }

-- the same for siblings and for all nodes below them
abbrev pub listed_forest : Arg → SourceValues → Forest → Forest
listed_forest asked values none = none
listed_forest asked values (more node below rest) =
    more (listed_node asked values node) (listed_forest asked values below)
    (listed_forest asked values rest)

-- the same for a tree
abbrev pub listed_tree : Arg → SourceValues → Tree → Tree
listed_tree asked values tree = record {
  node = listed_node asked values tree.node;
  children = listed_forest asked values tree.children;
}
