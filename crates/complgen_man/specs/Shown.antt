-- The signs that the man page of a tree shows: its requests, and the texts of the tree in fonts.
use Rattle.std.specs.Prelude.{◌≡◌, ℕ, List, [], ◌∷◌, ◌++◌, Bool, true, false, ◌==◌, if◌then◌else◌, Option, Some, None, unwrap_or, codes, encode_utf8, filter, flat_map, map}
use Rattle.std.specs.List.{list_any}
use Rattle.cc_arg.specs.declared.names.ShownName.{ShownName}
use Rattle.cc_arg.specs.declared.names.ShownName.TheVariants.{Short, Long}
use Rattle.cc_arg.specs.declared.parts.ArgParts.{ArgParts as Arg}
use Rattle.cc_arg.specs.declared.possible_value.PossibleValue.{PossibleValue}
use Rattle.cc_arg.specs.Arguments.{is_positional, possible_values, takes_values}
use Rattle.cc_arg.specs.ShownNames.{shown_names}
use Rattle.cc_base.specs.Bytes.{line_feed, space}
use Rattle.cc_command.specs.declared.node.Node.{Node}
use Rattle.cc_command.specs.Names.{full_name}
use Rattle.cc_command.specs.Tree.{Forest, none, more, Tree}
use Rattle.complgen_man.specs.Page.{description, has_shown, is_optional, is_shown_argument, is_shown_option, is_shown_positional, is_shown_value, man_page, takes_more}
use Rattle.complgen_man.specs.Reader.{Font, roman, bold, italic, Sign, control, glyph, quote, line_end, read_page}
use Rattle.complgen_man.specs.Roff.{is_control}

-- ---- texts

-- a space for a control character
abbrev pub shown_byte : ℕ → ℕ
shown_byte byte = if is_control byte then space else byte

-- a text on one line, in a font
abbrev pub word : Font → List ℕ → List Sign
word font text = map (λ byte. glyph font (shown_byte byte)) text

-- a request of the page, on a line of its own
abbrev pub request : List ℕ → List Sign
request text = control ∷ word roman text ++ line_end ∷ []

-- a byte of a help text: a line feed ends the line, and the next one begins on a line of its own
abbrev pub prose_sign : ℕ → List Sign
prose_sign byte =
    if byte == line_feed then line_end ∷ request (codes "br")
    else glyph roman (shown_byte byte) ∷ []

-- a help text, line by line
abbrev pub prose : List ℕ → List Sign
prose text = flat_map prose_sign text ++ line_end ∷ []

-- some signs, if a test holds
abbrev pub signs_where : Bool → List Sign → List Sign
signs_where true signs = signs
signs_where false signs = []

-- lists of signs with a separator before each but the first
abbrev pub separated : List Sign → List (List Sign) → List Sign
separated between [] = []
separated between (signs ∷ rest) = signs ++ flat_map (λ more. between ++ more) rest

-- ---- the names and the values of an argument

-- a name as a user types it
abbrev pub name_shown : ShownName → List Sign
name_shown (Short short) = word bold (codes "-") ++ word bold (encode_utf8 short)
name_shown (Long long) = word bold (codes "--") ++ word bold long

abbrev pub names_shown : Arg → List Sign
names_shown argument = separated (word roman (codes ", ")) (map name_shown (shown_names argument))

abbrev pub value_shown : List ℕ → List Sign
value_shown name = word italic (codes "<") ++ word italic name ++ word italic (codes ">")

abbrev pub further_shown : List ℕ → List Sign
further_shown name = word roman (codes " ") ++ value_shown name

abbrev pub labels_shown : List ℕ → List (List ℕ) → List Sign
labels_shown id [] = value_shown id
labels_shown id (name ∷ names) = value_shown name ++ flat_map further_shown names

abbrev pub values_shown : Arg → List Sign
values_shown argument =
    signs_where (is_optional argument) (word roman (codes "["))
    ++ labels_shown argument.id argument.value_names
    ++ signs_where (takes_more argument) (word roman (codes "..."))
    ++ signs_where (is_optional argument) (word roman (codes "]"))

abbrev pub spaced_shown : Arg → List Sign
spaced_shown argument = word roman (codes " ") ++ values_shown argument

abbrev pub label_shown : Arg → List Sign
label_shown argument =
    if is_positional argument then values_shown argument
    else names_shown argument ++ (if takes_values argument then spaced_shown argument else [])

-- ---- an argument

abbrev pub value_help_shown : Option (List ℕ) → List Sign
value_help_shown None = []
value_help_shown (Some help) =
    word roman (codes " (") ++ word roman help ++ word roman (codes ")")

abbrev pub possible_shown : PossibleValue → List Sign
possible_shown value = word bold value.name ++ value_help_shown value.help

abbrev pub value_line_shown : List PossibleValue → List Sign
value_line_shown values =
    request (codes "br") ++ word roman (codes "Possible values: ")
    ++ separated (word roman (codes ", ")) (map possible_shown (filter is_shown_value values))
    ++ line_end ∷ []

abbrev pub possible_values_shown : Option (List PossibleValue) → List Sign
possible_values_shown None = []
possible_values_shown (Some values) =
    signs_where (list_any is_shown_value values) (value_line_shown values)

abbrev pub default_shown : Option (List ℕ) → List Sign
default_shown None = []
default_shown (Some value) =
    request (codes "br") ++ word roman (codes "Default: ") ++ word bold value ++ line_end ∷ []

abbrev pub argument_shown : Arg → List Sign
argument_shown argument =
    request (codes "TP") ++ label_shown argument ++ line_end ∷ []
    ++ (prose (unwrap_or argument.help [])
    ++ possible_values_shown (possible_values argument)
    ++ default_shown argument.default_value)

abbrev pub arguments_shown : Node → List Sign
arguments_shown node =
    flat_map argument_shown (filter is_shown_positional node.arguments)
    ++ flat_map argument_shown (filter is_shown_option node.arguments)

-- ---- a command

abbrev pub words_shown : Bool → List Sign
words_shown true = word roman (codes " ") ++ word italic (codes "COMMAND")
words_shown false =
    word roman (codes " [") ++ word italic (codes "COMMAND") ++ word roman (codes "]")

abbrev pub synopsis_shown : Tree → List Sign
synopsis_shown tree =
    word bold (full_name tree.node)
    ++ signs_where (list_any is_shown_option tree.node.arguments)
    (word roman (codes " [") ++ word italic (codes "OPTIONS") ++ word roman (codes "]"))
    ++ flat_map spaced_shown (filter is_shown_positional tree.node.arguments)
    ++ signs_where (has_shown tree.children) (words_shown tree.node.subcommand_required)
    ++ line_end ∷ []

abbrev pub further_alias : List ℕ → List Sign
further_alias alias = word roman (codes ", ") ++ word bold alias

abbrev pub aliases_shown : List (List ℕ) → List Sign
aliases_shown [] = []
aliases_shown (alias ∷ aliases) =
    request (codes "br") ++ word roman (codes "Aliases: ") ++ word bold alias
    ++ flat_map further_alias aliases ++ line_end ∷ []

abbrev pub usage_shown : Tree → List Sign
usage_shown tree = synopsis_shown tree ++ aliases_shown tree.node.visible_aliases

abbrev pub notes_shown : Option (List ℕ) → List Sign
notes_shown None = []
notes_shown (Some text) = request (codes "PP") ++ prose text

-- a request with one argument, between two `"`
abbrev pub titled : List ℕ → List ℕ → List Sign
titled name title =
    (control ∷ word roman name ++ quote ∷ []) ++ word roman title ++ quote ∷ line_end ∷ []

abbrev pub command_shown : Tree → List Sign
command_shown tree =
    titled (codes "SS ") (full_name tree.node) ++ usage_shown tree ++ request (codes "PP")
    ++ prose (description tree.node) ++ arguments_shown tree.node
    ++ notes_shown tree.node.after_help

abbrev pub signs_if_shown : Node → List Sign → List Sign → List Sign
signs_if_shown node own below =
    if node.hide then [] else (if node.generated then own else own ++ below)

abbrev pub commands_shown : Forest → List Sign
commands_shown none = []
commands_shown (more node below rest) =
    signs_if_shown node (command_shown (record { node = node; children = below }))
    (commands_shown below)
    ++ commands_shown rest

-- ---- the page

abbrev pub source_shown : List ℕ → Option (List ℕ) → List Sign
source_shown name None = word roman name
source_shown name (Some version) = word roman name ++ word roman (codes " ") ++ word roman version

-- the request of the title up to the name
abbrev pub title_begins : List Sign
title_begins = control ∷ word roman (codes "TH ") ++ quote ∷ []

-- from there up to the name and the version: the section, and no date
abbrev pub title_goes_on : List Sign
title_goes_on =
    quote ∷ glyph roman space ∷ quote ∷ word roman (codes "1")
    ++ quote ∷ glyph roman space ∷ quote ∷ quote ∷ glyph roman space ∷ quote ∷ []

-- the end of the request, and the request that turns hyphenation off
abbrev pub title_ends : List Sign
title_ends =
    quote ∷ glyph roman space ∷ quote ∷ word roman (codes "User Commands")
    ++ quote ∷ line_end ∷ request (codes "nh")

abbrev pub title_shown : List ℕ → Option (List ℕ) → List Sign
title_shown name version =
    title_begins ++ word roman name ++ title_goes_on ++ source_shown name version ++ title_ends

abbrev pub about_shown : Option (List ℕ) → List Sign
about_shown None = []
about_shown (Some about) = word roman (codes " - ") ++ word roman about

abbrev pub name_section_shown : List ℕ → Option (List ℕ) → List Sign
name_section_shown name about =
    request (codes "SH NAME") ++ word roman name ++ about_shown about ++ line_end ∷ []

abbrev pub front_shown : Tree → List Sign
front_shown tree =
    title_shown (full_name tree.node) tree.node.version
    ++ name_section_shown (full_name tree.node) tree.node.about
    ++ request (codes "SH SYNOPSIS") ++ usage_shown tree
    ++ request (codes "SH DESCRIPTION") ++ prose (description tree.node)

-- the whole page
unfoldable pub page_shown : Tree → List Sign
page_shown tree =
    front_shown tree
    ++ signs_where (list_any is_shown_argument tree.node.arguments)
    (request (codes "SH OPTIONS") ++ arguments_shown tree.node)
    ++ notes_shown tree.node.after_help
    ++ signs_where (has_shown tree.children)
    (request (codes "SH COMMANDS") ++ commands_shown tree.children)

-- a reader of roff reads the page of a tree as what it shows
abbrev pub ReadsBack : Tree → Type 0
ReadsBack tree = read_page (man_page tree) ≡ page_shown tree
