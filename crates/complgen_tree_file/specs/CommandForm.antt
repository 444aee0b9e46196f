-- The form of a tree file: what each key of a command sets, and its children.
use Rattle.std.specs.Prelude.{ℕ, List, [], ◌∷◌, ◌++◌, Bool, false, true, Option, Some, None}
use Rattle.std.specs.Prelude.{codes, fold, if◌then◌else◌}
use Rattle.std.specs.Option.{option_map_or}
use Rattle.std.specs.Str.{bytes_eq}
use Rattle.serde_json.specs.Data.{Data, array, object}
use Rattle.serde_json.specs.Data.{Items, item, no_items, Members, member, no_members}
use Rattle.serde_json.specs.Find.{as_array, as_bool, as_str, get}
use Rattle.cc_arg.specs.declared.parts.ArgParts.{ArgParts as Arg}
use Rattle.cc_command.specs.Made.{new_node, of_node, with_argument, with_child}
use Rattle.cc_command.specs.Tree.{Tree}
use Rattle.cc_command.specs.declared.node.Node.{Node}
use Rattle.complgen_tree_file.specs.ArgumentForm.{argument_fits, argument_in}
use Rattle.complgen_tree_file.specs.TreeForm.{Setting, all_fit, each_fits, each_in, given, is_object_of}
use Rattle.complgen_tree_file.specs.TreeForm.{keys_of, list_of, number_of, set_all, setting, text_at}

-- the texts of the command that help texts show
abbrev pub texts : List (Setting Node)
texts =
    setting (codes "about") (given as_str)
    (λ node. node.about) (λ node it. record node { about = it })
    ∷ setting (codes "version") (given as_str)
    (λ node. node.version) (λ node it. record node { version = it })
    ∷ setting (codes "long_about") (given as_str)
    (λ node. node.long_about) (λ node it. record node { long_about = it })
    ∷ setting (codes "after_help") (given as_str)
    (λ node. node.after_help) (λ node it. record node { after_help = it }) ∷ []

-- its bin name, its aliases, the heading over its children, and its display order
abbrev pub names : List (Setting Node)
names =
    setting (codes "bin_name") (given as_str)
    (λ node. node.bin_name) (λ node it. record node { bin_name = it })
    ∷ setting (codes "aliases") (list_of as_str)
    (λ node. node.aliases) (λ node it. record node { aliases = it })
    ∷ setting (codes "visible_aliases") (list_of as_str)
    (λ node. node.visible_aliases) (λ node it. record node { visible_aliases = it })
    ∷ setting (codes "subcommand_help_heading") (given as_str)
    (λ node. node.subcommand_help_heading)
    (λ node it. record node { subcommand_help_heading = it })
    ∷ setting (codes "display_order") (given number_of)
    (λ node. node.display_order) (λ node it. record node { display_order = it }) ∷ []

-- what is left out
abbrev pub flags : List (Setting Node)
flags =
    setting (codes "hide") as_bool (λ node. node.hide) (λ node it. record node { hide = it })
    ∷ setting (codes "disable_help_flag") as_bool
    (λ node. node.disable_help_flag) (λ node it. record node { disable_help_flag = it })
    ∷ setting (codes "disable_version_flag") as_bool
    (λ node. node.disable_version_flag) (λ node it. record node { disable_version_flag = it })
    ∷ setting (codes "disable_help_subcommand") as_bool
    (λ node. node.disable_help_subcommand) (λ node it. record node { disable_help_subcommand = it })
    ∷ []

-- whether other programs may be named, whether the program's name is no word of a command line, and
-- what a parser wants of one
abbrev pub rules : List (Setting Node)
rules =
    setting (codes "allow_external_subcommands") as_bool
    (λ node. node.allow_external_subcommands)
    (λ node it. record node { allow_external_subcommands = it })
    ∷ setting (codes "no_binary_name") as_bool
    (λ node. node.no_binary_name) (λ node it. record node { no_binary_name = it })
    ∷ setting (codes "subcommand_required") as_bool
    (λ node. node.subcommand_required) (λ node it. record node { subcommand_required = it })
    ∷ setting (codes "arg_required_else_help") as_bool
    (λ node. node.arg_required_else_help)
    (λ node it. record node { arg_required_else_help = it }) ∷ []

-- the keys that a command may have
unfoldable pub command_keys : List (List ℕ)
command_keys = codes "name" ∷ (((keys_of texts ++ keys_of names) ++ keys_of flags)
    ++ keys_of rules) ++ codes "args" ∷ codes "subcommands" ∷ []

-- the arguments that a list describes, if it fits
abbrev pub arguments_in : Data → List Arg
arguments_in d = option_map_or (each_in argument_in) (as_array d) []

-- whether a value is a list of arguments, and `before` holds
abbrev pub arguments_fit : Data → Bool → Bool
arguments_fit d before = option_map_or (λ ds. each_fits argument_fits ds before) (as_array d) false

-- a node with the arguments at their key added
abbrev pub with_args : Data → Node → Node
with_args d node = fold with_argument node (option_map_or arguments_in (get (codes "args") d) [])

-- whether the value at that key fits, if there is one, and `before` holds
abbrev pub args_fit : Data → Bool → Bool
args_fit d before =
    option_map_or (λ list. arguments_fit list before) (get (codes "args") d) before

-- a node with what the keys set, other than the name and the children
abbrev pub with_rest : Data → Node → Node
with_rest d node =
    with_args d (set_all rules d (set_all flags d (set_all names d (set_all texts d node))))

-- whether the values at these keys fit, and `before` holds
abbrev pub rest_fits : Data → Bool → Bool
rest_fits d before =
    args_fit d (all_fit rules d (all_fit flags d (all_fit names d (all_fit texts d before))))

-- the node of the command that an object describes, if it fits
unfoldable pub own_in : Data → Node
own_in d = with_rest d (new_node (text_at (codes "name") d))

-- whether a value without its children describes a command, and `before` holds
unfoldable pub own_fits : Data → Bool → Bool
own_fits d before = rest_fits d (is_object_of command_keys (codes "name") d before)

abbrev mutual
  -- the command that a value describes, if it fits: its own, with each of the children added
  pub command_in : Data → Tree
  command_in (object ms) = fold with_child (of_node (own_in (object ms))) (children_in ms)
  command_in d = of_node (own_in d)

  -- the children of an object; one without the key has none
  pub children_in : Members → List Tree
  children_in no_members = []
  children_in (member key d ms) =
      if bytes_eq (codes "subcommands") key then commands_in d else children_in ms

  -- the commands of a list
  pub commands_in : Data → List Tree
  commands_in (array ds) = each_command ds
  commands_in _ = []

  pub each_command : Items → List Tree
  each_command no_items = []
  each_command (item d ds) = command_in d ∷ each_command ds

abbrev mutual
  -- whether a value and its children describe commands, and `before` holds
  pub command_fits : Data → Bool → Bool
  command_fits (object ms) before = children_fit ms (own_fits (object ms) before)
  command_fits d before = own_fits d before

  pub children_fit : Members → Bool → Bool
  children_fit no_members before = before
  children_fit (member key d ms) before =
      if bytes_eq (codes "subcommands") key then commands_fit d before else children_fit ms before

  -- whether a value is a list of commands, and `before` holds
  pub commands_fit : Data → Bool → Bool
  commands_fit (array ds) before = each_command_fits ds before
  commands_fit _ before = false

  pub each_command_fits : Items → Bool → Bool
  each_command_fits no_items before = before
  each_command_fits (item d ds) before = each_command_fits ds (command_fits d before)

-- the command that a value describes
unfoldable pub command_of : Data → Option Tree
command_of d = if command_fits d true then Some (command_in d) else None
