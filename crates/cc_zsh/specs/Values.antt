-- The values of an argument.
use Rattle.std.specs.Prelude.{ℕ, zero, suc, Bool, List, [], ◌∷◌, ◌++◌, if◌then◌else◌, not, ◌&&◌, Option, Some, None, is_some, unwrap_or, codes, filter, map}
use Rattle.std.specs.List.{list_any}
use Rattle.cc_base.specs.Joined.{joined}
use Rattle.cc_arg.specs.declared.parts.ArgParts.{ArgParts as Arg}
use Rattle.cc_arg.specs.declared.possible_value.PossibleValue.{PossibleValue}
use Rattle.cc_arg.specs.declared.range.ValueRange.{ValueRange}
use Rattle.cc_arg.specs.declared.value_hint.ValueHint.{ValueHint}
use Rattle.cc_arg.specs.declared.value_hint.ValueHint.TheVariants.{Unknown, Other, AnyPath, FilePath, DirPath, ExecutablePath, CommandName, CommandString, CommandWithArguments, Username, Hostname, Url, EmailAddress}
use Rattle.cc_arg.specs.Arguments.{exactly, possible_values, takes_values}
use Rattle.cc_quote.specs.ZshQuote.{zsh_escaped_help, zsh_escaped_value}
use Rattle.cc_zsh.specs.declared.values.Form.{Form}
use Rattle.cc_zsh.specs.declared.values.Form.TheVariants.{Names, Helps}

-- the listed values that are not hidden
abbrev pub shown_values : List PossibleValue → List PossibleValue
shown_values values = filter (λ value. not value.hide) values

-- whether a value is not hidden and has a help text
abbrev pub is_described : PossibleValue → Bool
is_described value = not value.hide && is_some value.help

-- the text after the name of a value: its help text, which may be empty
unfoldable pub item_help : List ℕ → List ℕ
unfolding zsh_escaped_help
item_help help = codes "\\:\"" ++ zsh_escaped_help help ++ codes "\""

-- a value in a list of names, and in a list of names with help texts
unfoldable pub item_text : Form → PossibleValue → List ℕ
unfolding zsh_escaped_value
item_text Names value = zsh_escaped_value value.name
item_text Helps value = zsh_escaped_value value.name ++ item_help (unwrap_or value.help [])

-- the separator of items: names are on one line, and each name with its help text is on its own
-- line
abbrev pub item_separator : Form → List ℕ
item_separator Names = codes " "
item_separator Helps = codes "\n"

abbrev pub items_text : Form → List PossibleValue → List ℕ
items_text form values = joined (item_separator form) (map (item_text form) (shown_values values))

-- the listed values that are not hidden, with their help texts if one of them has a help text
unfoldable pub list_text : List PossibleValue → List ℕ
list_text values =
    if list_any is_described values then codes "((" ++ items_text Helps values ++ codes "))"
    else codes "(" ++ items_text Names values ++ codes ")"

-- the text for a hint
unfoldable pub hint_text : ValueHint → List ℕ
hint_text Unknown = codes "_default"
hint_text Other = []
hint_text AnyPath = codes "_files"
hint_text FilePath = codes "_files"
hint_text DirPath = codes "_files -/"
hint_text ExecutablePath = codes "_absolute_command_paths"
hint_text CommandName = codes "_command_names -e"
hint_text CommandString = codes "_cmdstring"
hint_text CommandWithArguments = codes "_cmdambivalent"
hint_text Username = codes "_users"
hint_text Hostname = codes "_hosts"
hint_text Url = codes "_urls"
hint_text EmailAddress = codes "_email_addresses"

-- the listed values if there are any, else the text for the hint
abbrev pub listed_or_hint : Option (List PossibleValue) → ValueHint → List ℕ
listed_or_hint (Some values) hint = list_text values
listed_or_hint None hint = hint_text hint

-- the text for a value of an argument
unfoldable pub value_text : Arg → List ℕ
value_text argument = listed_or_hint (possible_values argument) argument.value_hint

-- the first value name, or a space
abbrev pub first_name : List (List ℕ) → List ℕ
first_name [] = codes " "
first_name (name ∷ names) = name

-- one value of an option
unfoldable pub one_value : Arg → List ℕ
one_value argument =
    codes ":" ++ first_name argument.value_names ++ codes ":" ++ value_text argument

-- a text, repeated
abbrev pub times : ℕ → List ℕ → List ℕ
times zero text = []
times (suc count) text = text ++ times count text

-- a value, repeated; a value that may be left out is written once, after a colon
abbrev pub least_values : ℕ → List ℕ → List ℕ
least_values zero one = codes ":" ++ one
least_values (suc count) one = times (suc count) one

-- how many values an argument takes; building has set the range
abbrev pub range : Arg → ValueRange
range argument = unwrap_or argument.num_args (exactly 1)

-- the values of an argument that takes values: as many as it takes at least
unfoldable pub values_text : Arg → List ℕ
values_text argument =
    if takes_values argument then least_values (range argument).least (one_value argument) else []
