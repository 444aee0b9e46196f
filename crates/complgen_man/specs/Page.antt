-- The man page of a tree, section 1: one page with all commands that are not hidden.
use Rattle.std.specs.Prelude.{ℕ, List, [], ◌∷◌, ◌++◌, length, max, Bool, true, false, not, ◌&&◌, ◌||◌, ◌==◌, nat_lt, if◌then◌else◌, Option, Some, None, unwrap_or, codes, encode_utf8, filter, flat_map, map}
use Rattle.std.specs.List.{list_any}
use Rattle.cc_arg.specs.declared.action.ArgAction.TheVariants.{Set}
use Rattle.cc_arg.specs.declared.names.ShownName.{ShownName}
use Rattle.cc_arg.specs.declared.names.ShownName.TheVariants.{Short, Long}
use Rattle.cc_arg.specs.declared.parts.ArgParts.{ArgParts as Arg}
use Rattle.cc_arg.specs.declared.possible_value.PossibleValue.{PossibleValue}
use Rattle.cc_arg.specs.Arguments.{is_positional, possible_values, range_of, takes_values}
use Rattle.cc_arg.specs.Printed.{is_append}
use Rattle.cc_arg.specs.ShownNames.{shown_names}
use Rattle.cc_base.specs.Joined.{joined}
use Rattle.cc_command.specs.declared.node.Node.{Node}
use Rattle.cc_command.specs.Names.{full_name}
use Rattle.cc_command.specs.Tree.{Forest, none, more, Tree}
use Rattle.complgen_man.specs.Roff.{escaped_prose, escaped_word}

-- ---- requests, texts in a font, and paragraphs

-- a text that begins with a request: a period at the start of a line, and its name
unfoldable pub request_text : List ℕ → List ℕ
request_text text = codes "." ++ text

unfoldable pub bold_text : List ℕ → List ℕ
bold_text text = codes "\\fB" ++ escaped_word text ++ codes "\\fR"

-- after another such text
unfoldable pub further_bold : List ℕ → List ℕ
further_bold text = codes ", " ++ bold_text text

-- a help text on lines of its own; the escape before it shows nothing, so that it is no request
unfoldable pub paragraph_text : List ℕ → List ℕ
paragraph_text text = codes "\\&" ++ escaped_prose text ++ codes "\n"

-- ---- the names and the values of an argument

unfoldable pub name_text : ShownName → List ℕ
name_text (Short short) = codes "\\fB\\-" ++ escaped_word (encode_utf8 short) ++ codes "\\fR"
name_text (Long long) = codes "\\fB\\-\\-" ++ escaped_word long ++ codes "\\fR"

-- the visible names
abbrev pub names_text : Arg → List ℕ
names_text argument = joined (codes ", ") (map name_text (shown_names argument))

-- the name of a value
unfoldable pub value_text : List ℕ → List ℕ
value_text name = codes "\\fI<" ++ escaped_word name ++ codes ">\\fR"

-- after another
unfoldable pub further_value : List ℕ → List ℕ
further_value name = codes " " ++ value_text name

-- the names of the values, or the id if there are none
abbrev pub labels_text : List ℕ → List (List ℕ) → List ℕ
labels_text id [] = value_text id
labels_text id (name ∷ names) = value_text name ++ flat_map further_value names

-- the values can be left out
abbrev pub is_optional : Arg → Bool
is_optional argument =
    (range_of argument).least == 0 || (is_positional argument && not argument.required)

-- more values can follow than there are names
abbrev pub takes_more : Arg → Bool
takes_more argument =
    nat_lt (max (length argument.value_names) 1) (range_of argument).greatest
    || (is_positional argument && is_append (unwrap_or argument.action Set))

-- a text, if a test holds
abbrev pub where_true : Bool → List ℕ → List ℕ
where_true true text = text
where_true false text = []

unfoldable pub values_text : Arg → List ℕ
values_text argument =
    where_true (is_optional argument) (codes "[")
    ++ labels_text argument.id argument.value_names
    ++ where_true (takes_more argument) (codes "...")
    ++ where_true (is_optional argument) (codes "]")

unfoldable pub spaced_values : Arg → List ℕ
spaced_values argument = codes " " ++ values_text argument

-- the values of a positional, or the names of an option or a flag and its values if it takes any
unfoldable pub label_text : Arg → List ℕ
label_text argument =
    if is_positional argument then values_text argument
    else names_text argument ++ (if takes_values argument then spaced_values argument else [])

-- ---- an argument with its help text, its possible values and its default value

abbrev pub value_help_text : Option (List ℕ) → List ℕ
value_help_text None = []
value_help_text (Some help) = codes " (" ++ escaped_word help ++ codes ")"

unfoldable pub possible_text : PossibleValue → List ℕ
possible_text value = bold_text value.name ++ value_help_text value.help

abbrev pub is_shown_value : PossibleValue → Bool
is_shown_value value = not value.hide

-- the values that are not hidden
abbrev pub value_list : List PossibleValue → List ℕ
value_list values = joined (codes ", ") (map possible_text (filter is_shown_value values))

unfoldable pub value_line : List PossibleValue → List ℕ
value_line values = request_text (codes "br\nPossible values: ") ++ value_list values ++ codes "\n"

-- the line of the values, if one of them is not hidden
unfoldable pub listed_text : List PossibleValue → List ℕ
listed_text values = where_true (list_any is_shown_value values) (value_line values)

abbrev pub possible_values_text : Option (List PossibleValue) → List ℕ
possible_values_text None = []
possible_values_text (Some values) = listed_text values

unfoldable pub default_line : List ℕ → List ℕ
default_line value = request_text (codes "br\nDefault: ") ++ bold_text value ++ codes "\n"

abbrev pub default_text : Option (List ℕ) → List ℕ
default_text None = []
default_text (Some value) = default_line value

-- the lines of an argument after its label
unfoldable pub described_text : Arg → List ℕ
described_text argument =
    paragraph_text (unwrap_or argument.help [])
    ++ possible_values_text (possible_values argument)
    ++ default_text argument.default_value

unfoldable pub argument_text : Arg → List ℕ
argument_text argument =
    request_text (codes "TP\n\\&") ++ label_text argument ++ codes "\n" ++ described_text argument

-- ---- the arguments of a command

abbrev pub is_shown_positional : Arg → Bool
is_shown_positional argument = not argument.hide && is_positional argument

-- an option or a flag
abbrev pub is_shown_option : Arg → Bool
is_shown_option argument = not argument.hide && not (is_positional argument)

abbrev pub is_shown_argument : Arg → Bool
is_shown_argument argument = not argument.hide

-- the positionals, then the options and flags
unfoldable pub arguments_text : Node → List ℕ
arguments_text node =
    flat_map argument_text (filter is_shown_positional node.arguments)
    ++ flat_map argument_text (filter is_shown_option node.arguments)

-- ---- how a command is called

unfoldable pub options_mark : List Arg → List ℕ
options_mark arguments =
    where_true (list_any is_shown_option arguments) (codes " [\\fIOPTIONS\\fR]")

-- one of the siblings is not hidden
abbrev pub has_shown : Forest → Bool
has_shown none = false
has_shown (more node below rest) = not node.hide || has_shown rest

-- a subcommand, in brackets unless it is required
abbrev pub command_words : Bool → List ℕ
command_words true = codes " \\fICOMMAND\\fR"
command_words false = codes " [\\fICOMMAND\\fR]"

unfoldable pub command_mark : Tree → List ℕ
command_mark tree =
    where_true (has_shown tree.children) (command_words tree.node.subcommand_required)

unfoldable pub synopsis_text : Tree → List ℕ
synopsis_text tree =
    bold_text (full_name tree.node) ++ options_mark tree.node.arguments
    ++ flat_map spaced_values (filter is_shown_positional tree.node.arguments)
    ++ command_mark tree ++ codes "\n"

unfoldable pub alias_line : List ℕ → List (List ℕ) → List ℕ
alias_line alias others =
    request_text (codes "br\nAliases: ") ++ bold_text alias ++ flat_map further_bold others
    ++ codes "\n"

abbrev pub aliases_text : List (List ℕ) → List ℕ
aliases_text [] = []
aliases_text (alias ∷ aliases) = alias_line alias aliases

unfoldable pub usage_text : Tree → List ℕ
usage_text tree = synopsis_text tree ++ aliases_text tree.node.visible_aliases

-- ---- what a command does

-- the long description, or the short one if there is no long one
abbrev pub description : Node → List ℕ
description node = unwrap_or node.long_about (unwrap_or node.about [])

abbrev pub notes_text : Option (List ℕ) → List ℕ
notes_text None = []
notes_text (Some text) = request_text (codes "PP\n") ++ paragraph_text text

-- ---- the commands below the root, in preorder

-- the title of a command, and how it is called
unfoldable pub command_head : Tree → List ℕ
command_head tree =
    request_text (codes "SS \"") ++ escaped_word (full_name tree.node) ++ codes "\"\n\\&"
    ++ usage_text tree ++ request_text (codes "PP\n")

-- a command without those below it
unfoldable pub command_text : Tree → List ℕ
command_text tree =
    command_head tree ++ paragraph_text (description tree.node) ++ arguments_text tree.node
    ++ notes_text tree.node.after_help

-- a command and what is below it, unless it is hidden; below a generated `help` are copies
abbrev pub if_shown : Node → List ℕ → List ℕ → List ℕ
if_shown node own below = if node.hide then [] else (if node.generated then own else own ++ below)

abbrev pub commands_text : Forest → List ℕ
commands_text none = []
commands_text (more node below rest) =
    if_shown node (command_text (record { node = node; children = below })) (commands_text below)
    ++ commands_text rest

-- ---- the page

-- the name and the version of the program
unfoldable pub source_text : List ℕ → Option (List ℕ) → List ℕ
source_text name None = escaped_word name
source_text name (Some version) = escaped_word name ++ codes " " ++ escaped_word version

-- the title, and no hyphenation
unfoldable pub title_text : List ℕ → Option (List ℕ) → List ℕ
title_text name version =
    request_text (codes "TH \"") ++ escaped_word name ++ codes "\" \"1\" \"\" \""
    ++ source_text name version ++ codes "\" \"User Commands\"\n.nh\n"

abbrev pub about_text : Option (List ℕ) → List ℕ
about_text None = []
about_text (Some about) = codes " \\- " ++ escaped_word about

-- the name and what the program is for, as `whatis` reads them
unfoldable pub name_section : List ℕ → Option (List ℕ) → List ℕ
name_section name about =
    request_text (codes "SH NAME\n\\&") ++ escaped_word name ++ about_text about ++ codes "\n"

unfoldable pub heading_text : Node → List ℕ
heading_text node =
    title_text (full_name node) node.version ++ name_section (full_name node) node.about

unfoldable pub opening_text : Tree → List ℕ
opening_text tree =
    heading_text tree.node ++ request_text (codes "SH SYNOPSIS\n\\&") ++ usage_text tree

unfoldable pub front_text : Tree → List ℕ
front_text tree =
    opening_text tree ++ request_text (codes "SH DESCRIPTION\n")
    ++ paragraph_text (description tree.node)

unfoldable pub titled_options : Node → List ℕ
titled_options node = request_text (codes "SH OPTIONS\n") ++ arguments_text node

unfoldable pub options_section : Node → List ℕ
options_section node =
    where_true (list_any is_shown_argument node.arguments) (titled_options node)

unfoldable pub titled_commands : Forest → List ℕ
titled_commands children = request_text (codes "SH COMMANDS\n") ++ commands_text children

unfoldable pub commands_section : Forest → List ℕ
commands_section children = where_true (has_shown children) (titled_commands children)

unfoldable pub man_page : Tree → List ℕ
man_page tree =
    front_text tree ++ options_section tree.node ++ notes_text tree.node.after_help
    ++ commands_section tree.children
