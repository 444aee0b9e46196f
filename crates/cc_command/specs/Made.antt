-- A new command, and the trees that the builders return.
use Rattle.std.specs.Prelude.{ℕ, List, [], ◌∷◌, ◌++◌, false, if◌then◌else◌, Some, None, unwrap_or, min, ◌+◌, ◌-◌, ◌^◌}
use Rattle.cc_arg.specs.declared.parts.ArgParts.{ArgParts as Arg}
use Rattle.cc_arg.specs.Arguments.{is_positional}
use Rattle.cc_command.specs.declared.node.Node.{Node}
use Rattle.cc_command.specs.Tree.{none, more, join, Tree}

-- a node in which only the name is set
abbrev pub new_node : List ℕ → Node
new_node name = record {
  name = name;
  next_order = 0;
  candidates = None;
  generated = false;
  built = false;
  -- the keys: tools/keys.py --write makes these lines from docs/tree.schema.json
  bin_name = None;
  about = None;
  version = None;
  visible_aliases = [];
  aliases = [];
  arguments = [];
  disable_help_flag = false;
  disable_version_flag = false;
  disable_help_subcommand = false;
  hide = false;
  display_order = None;
  subcommand_help_heading = None;
  allow_external_subcommands = false;
  no_binary_name = false;
  subcommand_required = false;
  arg_required_else_help = false;
  long_about = None;
  after_help = None;
  -- end of the keys
}

-- a tree of one node in which only the name is set
abbrev pub new_tree : List ℕ → Tree
new_tree name = record { node = new_node name; children = none }

-- a tree of this node only, which is not built
abbrev pub of_node : Node → Tree
of_node node = record { node = record node { built = false }; children = none }

-- the tree with its root changed by this function; the root is then not built
abbrev pub with_root : (Node → Node) → Tree → Tree
with_root change tree = record tree { node = record (change tree.node) { built = false } }

-- the display order after this one; the greatest one is followed by itself
abbrev pub next_order : ℕ → ℕ
next_order order = min (order + 1) (2 ^ 64 - 1)

-- the argument, with this display order if it has none
abbrev pub ordered_argument : ℕ → Arg → Arg
ordered_argument order argument =
    record argument { display_order = Some (unwrap_or argument.display_order order) }

-- the node with one more argument. An option or a flag uses up the next display order, and gets it
-- unless it has a display order of its own.
abbrev pub with_argument : Node → Arg → Node
with_argument node argument =
    if is_positional argument
    then record node { arguments = node.arguments ++ argument ∷ []; built = false }
    else record node {
      arguments = node.arguments ++ ordered_argument node.next_order argument ∷ [];
      next_order = next_order node.next_order;
      built = false;
    }

-- the next display order after an argument: a positional uses up none
abbrev pub order_after : ℕ → Arg → ℕ
order_after order argument = if is_positional argument then order else next_order order

-- the argument, with this display order if it is an option or a flag that has none
abbrev pub with_order : ℕ → Arg → Arg
with_order order argument =
    if is_positional argument then argument else ordered_argument order argument

-- the arguments; the options and flags use up the display orders from this one on
abbrev pub ordered_arguments : ℕ → List Arg → List Arg
ordered_arguments order [] = []
ordered_arguments order (argument ∷ arguments) =
    with_order order argument ∷ ordered_arguments (order_after order argument) arguments

-- the node, with this display order if it has none
abbrev pub ordered_node : ℕ → Node → Node
ordered_node order node = record node { display_order = Some (unwrap_or node.display_order order) }

-- the tree with one more child, after the others. The child uses up the next display order, and
-- gets it unless it has a display order of its own.
abbrev pub with_child : Tree → Tree → Tree
with_child tree child = record {
  node = record tree.node { next_order = next_order tree.node.next_order; built = false };
  children = join tree.children
      (more (ordered_node tree.node.next_order child.node) child.children none);
}

-- the next display order after a child, whichever it is
abbrev pub order_after_child : ℕ → Tree → ℕ
order_after_child order child = next_order order

-- the children, which use up the display orders from this one on
abbrev pub ordered_children : ℕ → List Tree → List Tree
ordered_children order [] = []
ordered_children order (child ∷ children) =
    record child { node = ordered_node order child.node } ∷
    ordered_children (next_order order) children
