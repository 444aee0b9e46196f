-- The text of a fish script.
use Rattle.std.specs.Prelude.{⊤, ℕ, List, [], ◌∷◌, ◌++◌, if◌then◌else◌, Bool, true, false, not, Option, Some, None, codes, encode_utf8, filter, flat_map, map, unwrap_or}
use Rattle.cc_arg.specs.declared.parts.ArgParts.{ArgParts as Arg}
use Rattle.cc_arg.specs.declared.possible_value.PossibleValue.{PossibleValue}
use Rattle.cc_arg.specs.declared.value_hint.ValueHint.{ValueHint}
use Rattle.cc_arg.specs.declared.value_hint.ValueHint.TheVariants.{Unknown, AnyPath, FilePath, DirPath, ExecutablePath, CommandName, CommandString, Username, Hostname}
use Rattle.cc_arg.specs.Arguments.{is_positional, takes_values, possible_values}
use Rattle.cc_arg.specs.ShownNames.{shown_shorts, shown_longs}
use Rattle.cc_command.specs.declared.node.Node.{Node}
use Rattle.cc_command.specs.ArgumentLists.{options, flags}
use Rattle.cc_command.specs.Names.{full_name, visible_names}
use Rattle.cc_command.specs.Tree.{Forest, none, more, Tree, has_nodes}
use Rattle.cc_base.specs.Bytes.{space, line_feed}
use Rattle.cc_base.specs.Joined.{joined}
use Rattle.cc_quote.specs.FishQuote.{fish_escaped, fish_quoted_for_eval, fish_help_for_eval_of}
use Rattle.cc_generator.specs.Visits.{Keyed, path_visits}
use Rattle.cc_generator.specs.Subcommands.{sibling_names}
use Rattle.cc_fish.specs.Table.{function_name, has_positionals}

-- ---- the conditions of a node's records

-- one more name of a path
abbrev pub seen_text : List ℕ → List ℕ
seen_text name = codes "; and __fish_seen_subcommand_from " ++ name

-- a name after a space
abbrev pub spaced_name : List ℕ → List ℕ
spaced_name name = space ∷ name

unfoldable pub not_seen : List ℕ
not_seen = codes "; and not __fish_seen_subcommand_from"

-- the text that excludes the names of the children, if there are children
abbrev pub excluded_text : Forest → List ℕ
excluded_text children =
    if has_nodes children then not_seen ++ flat_map spaced_name (sibling_names children) else []

-- the key of a node: the part of a condition that states its path, which is empty for the root
abbrev pub fish_key : List ℕ → List ℕ → List ℕ
fish_key [] name = codes "_using_subcommand " ++ name
fish_key (byte ∷ bytes) name = (byte ∷ bytes) ++ seen_text name

-- the condition of the node with the given key, from the name of the function on
unfoldable pub key_condition : List ℕ → List ℕ → Forest → Option (List ℕ)
key_condition function [] children =
    if has_nodes children then Some (codes "__fish_" ++ function ++ codes "_needs_command")
    else None
key_condition function (byte ∷ bytes) children =
    Some (codes "__fish_" ++ function ++ (byte ∷ bytes) ++ excluded_text children)

abbrev pub condition_text : Option (List ℕ) → List ℕ
condition_text None = []
condition_text (Some text) = codes " -n \"" ++ text ++ codes "\""

-- the beginning of each record of a node
unfoldable pub front_text : List ℕ → Option (List ℕ) → List ℕ
front_text bin_name when = codes "complete -c " ++ bin_name ++ condition_text when

-- ---- the names and the help text of an argument

unfoldable pub short_text : ℕ → List ℕ
short_text short = codes " -s " ++ encode_utf8 short

unfoldable pub long_text : List ℕ → List ℕ
long_text long = codes " -l " ++ fish_escaped long

abbrev pub help_text : Option (List ℕ) → List ℕ
help_text None = []
help_text (Some help) = codes " -d '" ++ fish_escaped help ++ codes "'"

unfoldable pub names_text : Arg → List ℕ
names_text argument =
    flat_map short_text (shown_shorts argument) ++ flat_map long_text (shown_longs argument)
    ++ help_text argument.help

-- ---- the values of an option

-- a listed value: its name, a tab and its help text if there is one, quoted to be read twice
unfoldable pub value_text : PossibleValue → List ℕ
value_text value = fish_quoted_for_eval value.name ++ codes "\\t"
    ++ fish_help_for_eval_of (unwrap_or value.help [])

-- the listed values that are not hidden, each on its own line
unfoldable pub value_lines : List PossibleValue → List ℕ
value_lines values =
    joined (line_feed ∷ []) (map value_text (filter (λ value. not value.hide) values))

unfoldable pub list_begin : List ℕ
list_begin = codes " -r -f -a \""

unfoldable pub listed_text : List PossibleValue → List ℕ
listed_text values = list_begin ++ value_lines values ++ codes "\""

unfoldable pub hint_text : ValueHint → List ℕ
hint_text Unknown = codes " -r"
hint_text AnyPath = codes " -r -F"
hint_text FilePath = codes " -r -F"
hint_text DirPath = codes " -r -f -a \"(__fish_complete_directories)\""
hint_text ExecutablePath = codes " -r -F"
hint_text CommandName = codes " -r -f -a \"(__fish_complete_command)\""
hint_text CommandString = codes " -r -f -a \"(__fish_complete_command)\""
hint_text Username = codes " -r -f -a \"(__fish_complete_users)\""
hint_text Hostname = codes " -r -f -a \"(__fish_print_hostnames)\""
hint_text _ = codes " -r -f"

-- the listed values if there are any, else what the hint asks for
abbrev pub value_part : Option (List PossibleValue) → ValueHint → List ℕ
value_part (Some values) hint = listed_text values
value_part None hint = hint_text hint

-- the values of an argument, if it takes any
unfoldable pub values_text : Bool → Arg → List ℕ
values_text true argument = value_part (possible_values argument) argument.value_hint
values_text false argument = []

-- ---- the records of a node, each on a line

-- the record of an argument; the flag says whether it takes values
unfoldable pub argument_text : List ℕ → Bool → Arg → List ℕ
argument_text front takes argument =
    front ++ names_text argument ++ values_text takes argument ++ line_feed ∷ []

-- the record of a child's name, which marks that no files are offered if the node has no positional
unfoldable pub child_text : List ℕ → Bool → Option (List ℕ) → List ℕ → List ℕ
child_text front no_files about name =
    front ++ (if no_files then codes " -f" else []) ++ codes " -a \"" ++ name ++ codes "\""
    ++ help_text about ++ line_feed ∷ []

abbrev pub children_text : List ℕ → Bool → Forest → List ℕ
children_text front no_files none = []
children_text front no_files (more node below rest) =
    flat_map (child_text front no_files node.about) (visible_names node)
    ++ children_text front no_files rest

unfoldable pub options_text : List ℕ → Node → List ℕ
options_text front node = flat_map (argument_text front true) (options node)

unfoldable pub flags_text : List ℕ → Node → List ℕ
flags_text front node = flat_map (argument_text front false) (flags node)

unfoldable pub below_text : List ℕ → Tree → List ℕ
below_text front tree = children_text front (not (has_positionals tree.node)) tree.children

-- the records of a node: of its options, of its flags, and of its children's visible names
unfoldable pub node_text : List ℕ → Tree → List ℕ
node_text front tree =
    options_text front tree.node ++ flags_text front tree.node ++ below_text front tree

-- the records of a visit
unfoldable pub visit_text : List ℕ → List ℕ → Keyed (List ℕ) → List ℕ
visit_text bin_name function visit =
    node_text (front_text bin_name
    (key_condition function visit.key visit.tree.children)) visit.tree

-- ---- the head

-- a slash, if there is a long
abbrev pub slash_text : List (List ℕ) → List ℕ
slash_text [] = []
slash_text (long ∷ longs) = codes "/"

-- the first short
abbrev pub first_short : List ℕ → List (List ℕ) → List ℕ
first_short [] longs = []
first_short (short ∷ shorts) longs = encode_utf8 short ++ slash_text longs

-- the first long
abbrev pub first_long : List (List ℕ) → List ℕ
first_long [] = []
first_long (long ∷ longs) = fish_escaped long

-- what `argparse` receives for an argument: short, slash and long, and `=` if it takes values
abbrev pub spec_word : Arg → List ℕ
spec_word argument =
    first_short (shown_shorts argument) (shown_longs argument) ++ first_long (shown_longs argument)
    ++ (if takes_values argument then codes "=" else [])

unfoldable pub spec_text : Arg → List ℕ
spec_text argument = space ∷ spec_word argument

-- the text before the program in the name of the function that prints what `argparse` receives
unfoldable pub optspecs_begin : List ℕ
optspecs_begin = codes "# Print an optspec for argparse to handle cmd's options that are independent of any subcommand.\nfunction __fish_"

-- the text after that, before what the function prints
unfoldable pub optspecs_join : List ℕ
optspecs_join = codes "_global_optspecs\n    string join \\n"

-- the text before the program in the name of the function that says whether no command was given
-- yet
unfoldable pub needs_command_begin : List ℕ
needs_command_begin = codes "\nend\n\nfunction __fish_"

-- the text after that, before the program in the call of the first function
unfoldable pub needs_command_parse : List ℕ
needs_command_parse = codes "_needs_command\n    # Figure out if the current invocation already has a command.\n    set -l cmd (commandline -opc)\n    set -e cmd[1]\n    argparse -s (__fish_"

-- the text after that, up to the program in the name of the function that tests which command was
-- given
unfoldable pub needs_command_end : List ℕ
needs_command_end = codes "_global_optspecs) -- $cmd 2>/dev/null\n    or return\n    if set -q argv[1]\n        # Also print the command, so this can be used to figure out what it is.\n        echo $argv[1]\n        return 1\n    end\n    return 0\nend\n\nfunction __fish_"

-- the text after that, before the program in the call of the second function
unfoldable pub using_subcommand_call : List ℕ
using_subcommand_call = codes "_using_subcommand\n    set -l cmd (__fish_"

-- the text after that
unfoldable pub using_subcommand_end : List ℕ
using_subcommand_end =
    codes "_needs_command)\n    test -z \"$cmd\"\n    and return 1\n    contains -- $cmd[1] $argv\nend\n\n"

-- what `argparse` receives for the arguments that are not positional
abbrev pub specs_text : List Arg → List ℕ
specs_text arguments =
    flat_map spec_text (filter (λ argument. not (is_positional argument)) arguments)

-- the text from the end of the first function on, with the other two
unfoldable pub functions_text : List ℕ → List ℕ
functions_text function =
    needs_command_begin ++ function ++ needs_command_parse ++ function ++ needs_command_end
    ++ function ++ using_subcommand_call ++ function ++ using_subcommand_end

-- the head, if the root has children: three functions, each named after the program
unfoldable pub head_text : List ℕ → Tree → List ℕ
head_text function root =
    if has_nodes root.children then optspecs_begin ++ function ++ optspecs_join
    ++ specs_text root.node.arguments ++ functions_text function
    else []

-- unfolds the fixed texts of the other two
unfoldable pub fixed_texts : ⊤
unfolding needs_command_begin needs_command_parse needs_command_end using_subcommand_call using_subcommand_end
fixed_texts = tt

-- ---- the whole script

-- the records of all visible paths, path by path
unfoldable pub body_text : List ℕ → List ℕ → Tree → List ℕ
body_text bin_name function root =
    flat_map (visit_text bin_name function) (path_visits fish_key [] root)

unfoldable pub script_text : List ℕ → List ℕ → Tree → List ℕ
script_text bin_name function root = head_text function root ++ body_text bin_name function root

-- the script of a tree
abbrev pub fish_script : Tree → List ℕ
fish_script root = script_text (full_name root.node) (function_name (full_name root.node)) root
