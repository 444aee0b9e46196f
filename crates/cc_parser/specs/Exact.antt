-- Trees whose parser is a simple command for `clap`.
use Rattle.std.specs.Prelude.{ℕ, Bool, true, false, not, ◌&&◌, ◌||◌, ◌==◌, List, Option, Some, None, count_by, is_some, max, nat_lt, unwrap_or}
use Rattle.std.specs.List.{list_all}
use Rattle.cc_arg.specs.declared.action.ArgAction.TheVariants.{Set}
use Rattle.cc_arg.specs.declared.parts.ArgParts.{ArgParts as Arg}
use Rattle.cc_arg.specs.declared.range.ValueRange.{ValueRange}
use Rattle.cc_arg.specs.Printed.{is_append}
use Rattle.cc_command.specs.declared.node.Node.{Node}
use Rattle.cc_command.specs.Tree.{Forest, none, more, has_nodes, Tree}
use Rattle.cc_parser.specs.Arguments.{reads_simply}
use Rattle.cc_parser.specs.Parsers.{is_disabled_below, kept}
use Rattle.cc_parser.specs.Taken.{has_index_or_name}

-- ---- positionals

-- always the same number of values, and at most one
abbrev pub is_single_range : ValueRange → Bool
is_single_range range =
    (range.least == max range.greatest range.least) && not (nat_lt 1 range.least)

abbrev pub has_single_range : Option ValueRange → Bool
has_single_range None = false
has_single_range (Some range) = is_single_range range

-- an argument gets at most one value, always the same number, and only in one use
abbrev pub is_single : Arg → Bool
is_single arg = has_single_range arg.num_args && not (is_append (unwrap_or arg.action Set))

-- an argument has no index, is single, or has the last of this many indexes
abbrev pub is_placed : ℕ → Arg → Bool
is_placed count arg = not (is_some arg.index) || (is_single arg || (count == unwrap_or arg.index 0))

abbrev pub count_indexed : List Arg → ℕ
count_indexed args = count_by (λ arg. is_some arg.index) args

-- only the last positional may get several values
abbrev pub is_in_order : List Arg → Bool
is_in_order args = list_all (is_placed (count_indexed args)) args

-- ---- commands

-- a parse reads the arguments one by one, and no words of other programs
abbrev pub is_read_simply : Node → Bool
is_read_simply node = not node.allow_external_subcommands && (list_all reads_simply node.arguments
    && (list_all has_index_or_name node.arguments && is_in_order node.arguments))

-- the same, and the parser has no commands below it
abbrev pub is_leaf : Bool → Node → Forest → Bool
is_leaf here node below = not (has_nodes (kept here below)) && is_read_simply node

abbrev pub are_leaves : Bool → Forest → Bool
are_leaves here none = true
are_leaves here (more node below rest) = is_leaf here node below && are_leaves here rest

-- a root that is read simply, whose children are such leaves
abbrev pub is_parsed_exactly : Tree → Bool
is_parsed_exactly tree = is_read_simply tree.node
    && are_leaves (is_disabled_below false tree.children) (kept false tree.children)
