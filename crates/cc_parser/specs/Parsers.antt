-- The parser of a tree.
use Rattle.std.specs.Prelude.{◌≡◌, List, [], ◌∷◌, ◌++◌, Bool, true, false, not, ◌||◌, ◌&&◌, if◌then◌else◌, is_some}
use Rattle.std.specs.List.{list_any}
use Rattle.cc_arg.specs.declared.parts.ArgParts.{ArgParts as Arg}
use Rattle.cc_command.specs.declared.node.Node.{Node}
use Rattle.cc_command.specs.Tree.{Forest, none, more, has_nodes, Tree}
use Rattle.clap.specs.Walk.{Rule}
use Rattle.clap.specs.Simple.{App, Shape, new_app, new_shape, on_top}
use Rattle.cc_parser.specs.Arguments.{AreRulesOf}

-- The parser leaves the node out: `build` added it, and no command above its parent disables
-- `clap`'s own `help`, which takes its place.
abbrev pub is_left_out : Bool → Node → Bool
is_left_out above node = node.generated && not above

-- the siblings that the parser has
abbrev pub kept : Bool → Forest → Forest
kept above none = none
kept above (more node below rest) =
    if is_left_out above node then kept above rest else more node below (kept above rest)

-- `build` added one of the siblings
abbrev pub has_generated : Forest → Bool
has_generated none = false
has_generated (more node below rest) = node.generated || has_generated rest

-- `clap`'s own `help` is disabled below a command with these children: by a command above it, or
-- because `build` added none here
abbrev pub is_disabled_below : Bool → Forest → Bool
is_disabled_below above children = above || not (has_generated children)

-- an argument is global
abbrev pub any_global : List Arg → Bool
any_global arguments = list_any (λ argument. argument.global) arguments

-- an argument of the siblings that the parser has, or of a command below them, is global
abbrev pub globals_in : Bool → Bool → Forest → Bool
globals_in above here none = false
globals_in above here (more node below rest) =
    if is_left_out above node then globals_in above here rest
    else ((any_global node.arguments || globals_in here (is_disabled_below here below) below)
    || globals_in above here rest)

abbrev pub globals_below : Bool → Forest → Bool
globals_below above children = globals_in above (is_disabled_below above children) children

-- an argument of the tree is global, depending on whether `clap`'s own `help` is disabled above
abbrev pub has_globals_under : Bool → Tree → Bool
has_globals_under above tree =
    any_global tree.node.arguments || globals_below above tree.children

-- an argument of the tree is global
abbrev pub has_globals : Tree → Bool
has_globals tree = has_globals_under false tree

-- The shape by which a parse reads a command with these rules. Its `help` is `clap`'s own if
-- `build` added one, and no flag is added to its arguments.
abbrev pub shape_of_node : Bool → Node → Forest → List Rule → Shape
shape_of_node above node below rules = record (new_shape node.name) {
  aliases = node.visible_aliases ++ node.aliases;
  rules = rules;
  is_plain = not node.allow_external_subcommands;
  is_leaf = not (has_nodes (kept above below));
  no_binary_name = node.no_binary_name;
  disable_help_flag = true;
  disable_help_subcommand = not (has_generated below);
  disable_version_flag = true;
  has_version = is_some node.version;
  arg_required_else_help = node.arg_required_else_help;
  subcommand_required = node.subcommand_required;
}

-- a parse reads the command as the node describes it, with a rule for each of its arguments
abbrev pub IsShapeOf : Bool → Node → Forest → Shape → Type 0
IsShapeOf above node below shape =
    (shape ≡ shape_of_node above node below shape.rules) × AreRulesOf node.arguments shape.rules

abbrev pub AreShapesOf : Bool → Forest → List Shape → Type 0
AreShapesOf above none [] = Unit {0}
AreShapesOf above (more node below rest) (shape ∷ shapes) =
    IsShapeOf above node below shape × AreShapesOf above rest shapes
AreShapesOf above _ _ = ⊥

-- a parse reads a command and its children as the tree describes them
abbrev pub IsAppOf : Tree → App → Type 0
IsAppOf tree app =
    IsShapeOf false tree.node tree.children app.top
    × AreShapesOf (is_disabled_below false tree.children) (kept false tree.children) app.subs

-- The command of this node alone, without arguments. Its `help` is `clap`'s own if `build` added
-- one.
abbrev pub named_app : Node → Forest → App
named_app node below = on_top (λ top. record top {
  aliases = node.visible_aliases ++ node.aliases;
  is_plain = not node.allow_external_subcommands;
  no_binary_name = node.no_binary_name;
  disable_help_flag = true;
  disable_help_subcommand = not (has_generated below);
  disable_version_flag = true;
  has_version = is_some node.version;
  arg_required_else_help = node.arg_required_else_help;
  subcommand_required = node.subcommand_required;
}) (new_app node.name)

-- the command with these arguments, and nothing else changed
abbrev pub AddsArguments : List Arg → App → App → Type 0
AddsArguments arguments old new = AreRulesOf arguments new.top.rules
    × (new ≡ on_top (λ top. record top { rules = new.top.rules }) old)

-- the command with these children, which are shapes below `here`, and nothing else changed
abbrev pub AddsShapes : Bool → Bool → Forest → App → App → Type 0
AddsShapes above here children old new = AreShapesOf here (kept above children) new.subs
    × (new.top ≡ record old.top { is_leaf = not (has_nodes (kept above children)) })

-- the command with these children, and nothing else changed
abbrev pub AddsChildren : Bool → Forest → App → App → Type 0
AddsChildren above children = AddsShapes above (is_disabled_below above children) children

-- the command has no children
abbrev pub IsLeaf : App → Type 0
IsLeaf app = (app.subs ≡ []) × (app.top.is_leaf ≡ true)
