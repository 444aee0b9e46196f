-- Trees whose arguments are no longer global. In a built tree, each command has the global
-- arguments of the commands above it as its own.
use Rattle.std.specs.Prelude.{Bool, List, false, if◌then◌else◌, map}
use Rattle.cc_arg.specs.declared.parts.ArgParts.{ArgParts as Arg}
use Rattle.cc_command.specs.declared.node.Node.{Node}
use Rattle.cc_command.specs.Tree.{Forest, none, more, Tree}

-- the argument, which is not global if all are to be local
abbrev pub local_argument : Bool → Arg → Arg
local_argument local argument =
    record argument { global = if local then false else argument.global }

abbrev pub local_arguments : Bool → List Arg → List Arg
local_arguments local arguments = map (local_argument local) arguments

abbrev pub local_node : Bool → Node → Node
local_node local node = record node { arguments = local_arguments local node.arguments }

abbrev pub local_forest : Bool → Forest → Forest
local_forest local none = none
local_forest local (more node below rest) =
    more (local_node local node) (local_forest local below) (local_forest local rest)

-- the tree, in which no argument is global if all are to be local
abbrev pub local_tree : Bool → Tree → Tree
local_tree local tree = record {
  node = local_node local tree.node;
  children = local_forest local tree.children;
}
