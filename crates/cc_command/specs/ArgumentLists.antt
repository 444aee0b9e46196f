-- The lists of a command's arguments by kind.
use Rattle.std.specs.Prelude.{ℕ, List, [], ◌∷◌, Bool, not, ◌&&◌, if◌then◌else◌, filter, Option, Some, None}
use Rattle.std.specs.List.{flat_map}
use Rattle.std.specs.Option.{option_to_list}
use Rattle.std.specs.Str.{bytes_eq}
use Rattle.cc_arg.specs.declared.parts.ArgParts.{ArgParts as Arg}
use Rattle.cc_arg.specs.Arguments.{is_positional, takes_values}
use Rattle.cc_command.specs.declared.node.Node.{Node}

-- an option is not a positional, and takes values
abbrev pub is_option : Arg → Bool
is_option argument = not (is_positional argument) && takes_values argument

-- a flag is not a positional, and takes no values
abbrev pub is_flag : Arg → Bool
is_flag argument = not (is_positional argument) && not (takes_values argument)

-- a node's options, in the order of its arguments
abbrev pub options : Node → List Arg
options node = filter is_option node.arguments

-- a node's flags, in the order of its arguments
abbrev pub flags : Node → List Arg
flags node = filter is_flag node.arguments

-- a node's positionals, in the order of its arguments
abbrev pub positionals : Node → List Arg
positionals node = filter is_positional node.arguments

-- the first of the arguments that has the id
abbrev pub first_with_id : List Arg → List ℕ → Option Arg
first_with_id [] id = None
first_with_id (argument ∷ arguments) id =
    if bytes_eq argument.id id then Some argument else first_with_id arguments id

-- the arguments that cannot be given together with one: for each id that it names, in order, the
-- first of the arguments that has it. An id that no argument has is skipped.
abbrev pub conflicting : List Arg → Arg → List Arg
conflicting arguments argument =
    flat_map (λ id. option_to_list (first_with_id arguments id)) argument.conflicts
