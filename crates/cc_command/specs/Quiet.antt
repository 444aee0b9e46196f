-- Quiet possible values: a bash script can contain them unchanged.
use Rattle.std.specs.Prelude.{ℕ, Bool, true, false, ◌&&◌, ◌||◌, ◌==◌, List, [], ◌∷◌, codes, Option, Some, None}
use Rattle.std.specs.Char.{is_ascii_alphanumeric}
use Rattle.std.specs.List.{list_all, list_any}
use Rattle.cc_arg.specs.declared.parts.ArgParts.{ArgParts as Arg}
use Rattle.cc_arg.specs.declared.possible_value.PossibleValue.{PossibleValue}
use Rattle.cc_arg.specs.Arguments.{possible_values}
use Rattle.cc_command.specs.declared.node.Node.{Node}
use Rattle.cc_command.specs.Tree.{Forest, none, more, Tree}

-- a letter, a digit or one of these signs
abbrev pub is_quiet_byte : ℕ → Bool
is_quiet_byte byte =
    is_ascii_alphanumeric byte || list_any (λ sign. byte == sign) (codes "+-./:@_,=")

-- a text that is not empty and consists of such bytes
abbrev pub is_quiet_value : List ℕ → Bool
is_quiet_value [] = false
is_quiet_value (byte ∷ value) = list_all is_quiet_byte (byte ∷ value)

-- the names of some possible values are quiet, including hidden values
abbrev pub are_quiet_values : Option (List PossibleValue) → Bool
are_quiet_values None = true
are_quiet_values (Some possible) = list_all (λ value. is_quiet_value value.name) possible

-- each possible value of an argument, of all arguments of a node, or of all nodes is quiet
abbrev pub is_quiet_argument : Arg → Bool
is_quiet_argument argument = are_quiet_values (possible_values argument)

abbrev pub is_quiet_node : Node → Bool
is_quiet_node node = list_all is_quiet_argument node.arguments

abbrev pub is_quiet_forest : Forest → Bool
is_quiet_forest none = true
is_quiet_forest (more node below rest) =
    is_quiet_node node && (is_quiet_forest below && is_quiet_forest rest)

abbrev pub is_quiet_tree : Tree → Bool
is_quiet_tree tree = is_quiet_node tree.node && is_quiet_forest tree.children
