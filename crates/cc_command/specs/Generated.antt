-- The flags `help` and `version`, and the child `help`, which building adds to a tree.
use Rattle.std.specs.Prelude.{ℕ, suc, List, [], ◌∷◌, ◌++◌, Bool, true, false, not, if◌then◌else◌, ◌&&◌, Option, Some, is_some}
use Rattle.cc_arg.specs.declared.parts.ArgParts.{ArgParts as Arg}
use Rattle.cc_arg.specs.declared.action.ArgAction.{ArgAction}
use Rattle.cc_arg.specs.declared.action.ArgAction.TheVariants.{Help, Version}
use Rattle.cc_arg.specs.Arguments.{new_arg}
use Rattle.cc_command.specs.declared.node.Node.{Node}
use Rattle.cc_command.specs.Tree.{Forest, none, more, join}
use Rattle.cc_command.specs.Names.{has_child, joined_name}
use Rattle.cc_command.specs.Made.{new_node}
use Rattle.cc_command.specs.Texts.{help_name, help_short, help_help, help_about, version_name, version_short, version_help, last_order}

-- a flag with this id, which is also its long, a short, a help text and an action
abbrev pub generated_flag : List ℕ → ℕ → List ℕ → ArgAction → Arg
generated_flag id short help action = record (new_arg id) {
  short = Some short;
  long = Some id;
  help = Some help;
  action = Some action;
  display_order = Some last_order;
}

-- the flag that shows the help
unfoldable pub help_argument : Arg
help_argument = generated_flag help_name help_short help_help Help

-- the flag that shows the version
unfoldable pub version_argument : Arg
version_argument = generated_flag version_name version_short version_help Version

-- the flag `help`, unless it is disabled
abbrev pub generated_help : Node → List Arg
generated_help node = if node.disable_help_flag then [] else help_argument ∷ []

-- the flag `version`, if there is a version and the flag is not disabled
abbrev pub generated_version : Node → List Arg
generated_version node =
    if is_some node.version && not node.disable_version_flag then version_argument ∷ [] else []

-- the flags that building adds if no argument has their ids
abbrev pub generated_arguments : Node → List Arg
generated_arguments node = generated_help node ++ generated_version node

-- a node that building makes, with no flags or children to generate: it has a name, a bin name, an
-- optional description and a display order, and it can be hidden
abbrev pub generated_node : List ℕ → List ℕ → Option (List ℕ) → ℕ → Bool → Node
generated_node name bin_name about order hide = record (new_node name) {
  bin_name = Some bin_name;
  about = about;
  display_order = Some order;
  hide = hide;
  disable_help_flag = true;
  disable_version_flag = true;
  disable_help_subcommand = true;
  generated = true;
  built = true;
}

-- the copies of some siblings and of all commands below them, under a parent of this full name. The
-- first sibling gets this display order, and each further one the next.
abbrev pub copies : List ℕ → ℕ → Forest → Forest
copies parent order none = none
copies parent order (more node below rest) =
    more (generated_node node.name (joined_name parent node.name) node.about order node.hide)
    (copies (joined_name parent node.name) 0 below) (copies parent (suc order) rest)

-- a generated `help` under a parent of this full name, with these children
abbrev pub help_command : List ℕ → Forest → Forest
help_command parent children =
    more (generated_node help_name (joined_name parent help_name)
    (Some help_about) last_order false) children none

-- the child `help` is missing: there are children, none of them has the name or an alias `help`,
-- and the child is not disabled
abbrev pub needs_help_child : Node → Forest → Bool
needs_help_child node none = false
needs_help_child node (more child below rest) =
    not node.disable_help_subcommand && not (has_child (more child below rest) help_name)

-- the generated child `help`, if it is missing; its children are copies of the children, then a
-- child `help`
abbrev pub help_child : List ℕ → Node → Forest → Forest
help_child parent node children =
    if needs_help_child node children
    then help_command parent (join (copies (joined_name parent help_name) 0 children)
    (help_command (joined_name parent help_name) none))
    else none
