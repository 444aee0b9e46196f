-- A reader of roff reads the page of a tree as what it shows.
use Rattle.std.proofs.Common.{◌≡◌, ℕ, Bool, true, false, List, [], ◌∷◌, ◌++◌, filter, unwrap_or, codes, refl, Option, Some, None, encode_utf8, ◌==◌, sym, subst, ⊎_elim}
use Rattle.std.specs.List.{list_any}
use Rattle.std.proofs.lemmas.Bool.{cases_Bool}
use Rattle.std.proofs.lemmas.Bool.Decides.{Decides-eqb}
use Rattle.cc_arg.specs.declared.names.ShownName.{ShownName}
use Rattle.cc_arg.specs.declared.names.ShownName.TheVariants.{Short, Long}
use Rattle.cc_arg.specs.declared.parts.ArgParts.{ArgParts as Arg}
use Rattle.cc_arg.specs.declared.possible_value.PossibleValue.{PossibleValue}
use Rattle.cc_arg.specs.Arguments.{is_positional, possible_values, takes_values}
use Rattle.cc_arg.specs.ShownNames.{shown_names}
use Rattle.cc_command.specs.declared.node.Node.{Node}
use Rattle.cc_command.specs.Names.{full_name}
use Rattle.cc_command.specs.Tree.{Forest, none, more, Tree}
use Rattle.cc_base.specs.Bytes.{backslash, backtick, dash, double_quote, line_feed, single_quote}
use Rattle.cc_quote.specs.Escapes.{escaped_byte}
use Rattle.complgen_man.specs.Page.{about_text, alias_line, aliases_text, argument_text, arguments_text, bold_text, command_head, command_mark, command_text, command_words, commands_section, commands_text, default_line, default_text, described_text, description, front_text, further_bold, further_value, has_shown, heading_text, is_optional, is_shown_argument, is_shown_option, is_shown_positional, is_shown_value, label_text, labels_text, listed_text, man_page, name_section, name_text, names_text, notes_text, opening_text, options_mark, options_section, paragraph_text, possible_text, possible_values_text, request_text, source_text, spaced_values, synopsis_text, takes_more, title_text, titled_commands, titled_options, usage_text, value_help_text, value_line, value_text, values_text, where_true}
use Rattle.complgen_man.specs.Reader.{Font, roman, bold, italic, Sign, control, line_end, quote, at_first, inside, glyph}
use Rattle.complgen_man.specs.Shown.{ReadsBack, about_shown, aliases_shown, argument_shown, arguments_shown, command_shown, commands_shown, default_shown, front_shown, further_alias, further_shown, label_shown, labels_shown, name_section_shown, name_shown, names_shown, notes_shown, page_shown, possible_shown, possible_values_shown, request, signs_where, source_shown, spaced_shown, synopsis_shown, title_begins, title_ends, title_goes_on, title_shown, usage_shown, value_help_shown, value_line_shown, value_shown, values_shown, word, words_shown, prose, prose_sign, shown_byte}
use Rattle.complgen_man.specs.Roff.{caret, escaped_prose, escaped_word, is_control, is_escaped, prose_replacement, tilde, word_replacement}
use Rattle.complgen_man.proofs.Parts.{Reads, computed, each, either, fixed, joins, nothing, then, then_unseen, unseen_then, when, each_one}

-- a fact of this byte, or the byte is another
is_or_not : (P : ℕ → Type 0) (special byte : ℕ) → P special → ((byte == special) ≡ false → P byte) → P byte
is_or_not P special byte is not =
    ⊎_elim {C = P byte} (λ e. subst P (sym ((Decides-eqb byte special).0 e)) is) not (cases_Bool (byte == special))

-- a byte of a word
abbrev IsRead : Font → ℕ → Type 0
IsRead font byte = Reads (inside font) (escaped_byte is_escaped word_replacement byte) (glyph font (shown_byte byte) ∷ []) (inside font)

word_byte : (font : Font) (byte : ℕ) → IsRead font byte
word_byte font byte =
    is_or_not (IsRead font) backslash byte (computed refl refl) (λ a.
    is_or_not (IsRead font) dash byte (computed refl refl) (λ b.
    is_or_not (IsRead font) double_quote byte (computed refl refl) (λ c.
    is_or_not (IsRead font) single_quote byte (computed refl refl) (λ d.
    is_or_not (IsRead font) backtick byte (computed refl refl) (λ e.
    is_or_not (IsRead font) caret byte (computed refl refl) (λ f.
    is_or_not (IsRead font) tilde byte (computed refl refl) (λ g.
    is_or_not (IsRead font) line_feed byte (computed refl refl) (λ h.
    ⊎_elim {C = IsRead font byte}
    (λ (is : is_control byte ≡ true). rw (a, b, c, d, e, f, g, is) (computed refl refl))
    (λ (not : is_control byte ≡ false). rw (a, b, c, d, e, f, g, not) (computed (rw (h, a, c) refl) (rw (h, a) refl)))
    (cases_Bool (is_control byte))))))))))

pub word_reads : (font : Font) (text : List ℕ) → Reads (inside font) (escaped_word text) (word font text) (inside font)
unfolding escaped_word
word_reads font text = each_one (escaped_byte is_escaped word_replacement) (λ byte. glyph font (shown_byte byte)) (word_byte font) text

-- a byte of a help text
abbrev IsProse : ℕ → Type 0
IsProse byte = Reads (inside roman) (escaped_byte is_escaped prose_replacement byte) (prose_sign byte) (inside roman)

prose_byte : (byte : ℕ) → IsProse byte
prose_byte byte =
    is_or_not IsProse line_feed byte (computed refl refl) (λ (no : (byte == line_feed) ≡ false). rw no (word_byte roman byte))

-- a help text, on lines of its own
pub paragraph_reads : (text : List ℕ) → Reads (at_first roman) (paragraph_text text) (prose text) (at_first roman)
unfolding paragraph_text escaped_prose
paragraph_reads text =
    then
    (unseen_then (fixed (codes "\\&") [] refl refl)
    (each (escaped_byte is_escaped prose_replacement) prose_sign prose_byte text))
    (fixed (codes "\n") (line_end ∷ []) refl refl)

-- ---- texts of the page's own, as they are read in a line

space_reads : Reads (inside roman) (codes " ") (word roman (codes " ")) (inside roman)
space_reads = computed refl refl

comma_reads : Reads (inside roman) (codes ", ") (word roman (codes ", ")) (inside roman)
comma_reads = computed refl refl

line_reads : Reads (inside roman) (codes "\n") (line_end ∷ []) (at_first roman)
line_reads = computed refl refl

to_roman : {font : Font} → Reads (inside font) (codes "\\fR") [] (inside roman)
to_roman = computed refl refl

bold_reads : (text : List ℕ) → Reads (inside roman) (bold_text text) (word bold text) (inside roman)
unfolding bold_text
bold_reads text = then_unseen (unseen_then (fixed (codes "\\fB") [] refl refl) (word_reads bold text)) to_roman

-- ---- an argument

name_reads : (name : ShownName) → Reads (inside roman) (name_text name) (name_shown name) (inside roman)
unfolding name_text
name_reads (Short short) =
    then_unseen (then (fixed (codes "\\fB\\-") (word bold (codes "-")) refl refl) (word_reads bold (encode_utf8 short))) to_roman
name_reads (Long long) =
    then_unseen (then (fixed (codes "\\fB\\-\\-") (word bold (codes "--")) refl refl) (word_reads bold long)) to_roman

value_reads : (name : List ℕ) → Reads (inside roman) (value_text name) (value_shown name) (inside roman)
unfolding value_text
value_reads name =
    then (then (fixed (codes "\\fI<") (word italic (codes "<")) refl refl) (word_reads italic name))
    (fixed (codes ">\\fR") (word italic (codes ">")) refl refl)

further_reads : (name : List ℕ) → Reads (inside roman) (further_value name) (further_shown name) (inside roman)
unfolding further_value
further_reads name = then space_reads (value_reads name)

labels_read : (id : List ℕ) (names : List (List ℕ)) → Reads (inside roman) (labels_text id names) (labels_shown id names) (inside roman)
labels_read id [] = value_reads id
labels_read id (name ∷ names) = then (value_reads name) (each further_value further_shown further_reads names)

-- a fixed text where a test holds
optional : (test : Bool) (text : List ℕ) (signs : List Sign) → Reads (inside roman) text signs (inside roman) → Reads (inside roman) (where_true test text) (signs_where test signs) (inside roman)
optional test text signs part = when test part

values_read : (argument : Arg) → Reads (inside roman) (values_text argument) (values_shown argument) (inside roman)
unfolding values_text
values_read argument =
    then
    (then
    (then (optional (is_optional argument) (codes "[") (word roman (codes "[")) (computed refl refl))
    (labels_read argument.id argument.value_names))
    (optional (takes_more argument) (codes "...") (word roman (codes "...")) (computed refl refl)))
    (optional (is_optional argument) (codes "]") (word roman (codes "]")) (computed refl refl))

spaced_reads : (argument : Arg) → Reads (inside roman) (spaced_values argument) (spaced_shown argument) (inside roman)
unfolding spaced_values
spaced_reads argument = then space_reads (values_read argument)

names_read : (argument : Arg) → Reads (inside roman) (names_text argument) (names_shown argument) (inside roman)
names_read argument = joins name_text (codes ", ") (word roman (codes ", ")) name_shown comma_reads name_reads (shown_names argument)

label_reads : (argument : Arg) → Reads (inside roman) (label_text argument) (label_shown argument) (inside roman)
unfolding label_text
label_reads argument =
    either (is_positional argument) (values_read argument)
    (then (names_read argument) (either (takes_values argument) (spaced_reads argument) nothing))

value_help_reads : (help : Option (List ℕ)) → Reads (inside roman) (value_help_text help) (value_help_shown help) (inside roman)
value_help_reads None = nothing
value_help_reads (Some help) =
    then (then (fixed (codes " (") (word roman (codes " (")) refl refl) (word_reads roman help))
    (fixed (codes ")") (word roman (codes ")")) refl refl)

possible_reads : (value : PossibleValue) → Reads (inside roman) (possible_text value) (possible_shown value) (inside roman)
unfolding possible_text
possible_reads value = then (bold_reads value.name) (value_help_reads value.help)

value_line_reads : (values : List PossibleValue) → Reads (at_first roman) (value_line values) (value_line_shown values) (at_first roman)
unfolding value_line request_text
value_line_reads values =
    then
    (then
    (fixed (codes ".br\nPossible values: ") (request (codes "br") ++ word roman (codes "Possible values: ")) refl refl)
    (joins possible_text (codes ", ") (word roman (codes ", ")) possible_shown comma_reads possible_reads (filter is_shown_value values)))
    line_reads

possible_values_read : (values : Option (List PossibleValue)) → Reads (at_first roman) (possible_values_text values) (possible_values_shown values) (at_first roman)
unfolding listed_text
possible_values_read None = nothing
possible_values_read (Some values) = when (list_any is_shown_value values) (value_line_reads values)

default_reads : (value : Option (List ℕ)) → Reads (at_first roman) (default_text value) (default_shown value) (at_first roman)
unfolding default_line request_text
default_reads None = nothing
default_reads (Some value) =
    then
    (then (fixed (codes ".br\nDefault: ") (request (codes "br") ++ word roman (codes "Default: ")) refl refl) (bold_reads value))
    line_reads

argument_reads : (argument : Arg) → Reads (at_first roman) (argument_text argument) (argument_shown argument) (at_first roman)
unfolding argument_text described_text request_text
argument_reads argument =
    then
    (then (then (fixed (codes ".TP\n\\&") (request (codes "TP")) refl refl) (label_reads argument)) line_reads)
    (then
    (then (paragraph_reads (unwrap_or argument.help [])) (possible_values_read (possible_values argument)))
    (default_reads argument.default_value))

arguments_read : (node : Node) → Reads (at_first roman) (arguments_text node) (arguments_shown node) (at_first roman)
unfolding arguments_text
arguments_read node =
    then (each argument_text argument_shown argument_reads (filter is_shown_positional node.arguments))
    (each argument_text argument_shown argument_reads (filter is_shown_option node.arguments))

-- ---- a command

command_words_read : (required : Bool) → Reads (inside roman) (command_words required) (words_shown required) (inside roman)
command_words_read true = computed refl refl
command_words_read false = computed refl refl

options_read : Reads (inside roman) (codes " [\\fIOPTIONS\\fR]") (word roman (codes " [") ++ word italic (codes "OPTIONS") ++ word roman (codes "]")) (inside roman)
options_read = computed refl refl

synopsis_reads : (tree : Tree) → Reads (inside roman) (synopsis_text tree) (synopsis_shown tree) (at_first roman)
unfolding synopsis_text options_mark command_mark
synopsis_reads tree =
    then
    (then
    (then
    (then (bold_reads (full_name tree.node)) (when (list_any is_shown_option tree.node.arguments) options_read))
    (each spaced_values spaced_shown spaced_reads (filter is_shown_positional tree.node.arguments)))
    (when (has_shown tree.children) (command_words_read tree.node.subcommand_required)))
    line_reads

alias_reads : (alias : List ℕ) → Reads (inside roman) (further_bold alias) (further_alias alias) (inside roman)
unfolding further_bold
alias_reads alias = then comma_reads (bold_reads alias)

aliases_read : (aliases : List (List ℕ)) → Reads (at_first roman) (aliases_text aliases) (aliases_shown aliases) (at_first roman)
unfolding alias_line request_text
aliases_read [] = nothing
aliases_read (alias ∷ aliases) =
    then
    (then
    (then (fixed (codes ".br\nAliases: ") (request (codes "br") ++ word roman (codes "Aliases: ")) refl refl) (bold_reads alias))
    (each further_bold further_alias alias_reads aliases))
    line_reads

usage_reads : (tree : Tree) → Reads (inside roman) (usage_text tree) (usage_shown tree) (at_first roman)
unfolding usage_text
usage_reads tree = then (synopsis_reads tree) (aliases_read tree.node.visible_aliases)

paragraph_begins : Reads (at_first roman) (codes ".PP\n") (request (codes "PP")) (at_first roman)
paragraph_begins = computed refl refl

notes_read : (notes : Option (List ℕ)) → Reads (at_first roman) (notes_text notes) (notes_shown notes) (at_first roman)
unfolding request_text
notes_read None = nothing
notes_read (Some text) = then paragraph_begins (paragraph_reads text)

command_reads : (tree : Tree) → Reads (at_first roman) (command_text tree) (command_shown tree) (at_first roman)
unfolding command_text command_head request_text
command_reads tree =
    then
    (then
    (then
    (then
    (then
    (then
    (then (fixed (codes ".SS \"") (control ∷ word roman (codes "SS ") ++ quote ∷ []) refl refl) (word_reads roman (full_name tree.node)))
    (fixed (codes "\"\n\\&") (quote ∷ line_end ∷ []) refl refl))
    (usage_reads tree))
    paragraph_begins)
    (paragraph_reads (description tree.node)))
    (arguments_read tree.node))
    (notes_read tree.node.after_help)

commands_read : (commands : Forest) → Reads (at_first roman) (commands_text commands) (commands_shown commands) (at_first roman)
commands_read none = nothing
commands_read (more node below rest) =
    let own = command_reads (record { node = node; children = below }) in
    then (either node.hide nothing (either node.generated own (then own (commands_read below)))) (commands_read rest)

-- ---- the page

source_reads : (name : List ℕ) (version : Option (List ℕ)) → Reads (inside roman) (source_text name version) (source_shown name version) (inside roman)
unfolding source_text
source_reads name None = word_reads roman name
source_reads name (Some version) = then (then (word_reads roman name) space_reads) (word_reads roman version)

title_reads : (name : List ℕ) (version : Option (List ℕ)) → Reads (at_first roman) (title_text name version) (title_shown name version) (at_first roman)
unfolding title_text request_text
title_reads name version =
    then
    (then
    (then
    (then (fixed (codes ".TH \"") title_begins refl refl) (word_reads roman name))
    (fixed (codes "\" \"1\" \"\" \"") title_goes_on refl refl))
    (source_reads name version))
    (fixed (codes "\" \"User Commands\"\n.nh\n") title_ends refl refl)

about_reads : (about : Option (List ℕ)) → Reads (inside roman) (about_text about) (about_shown about) (inside roman)
about_reads None = nothing
about_reads (Some about) = then (fixed (codes " \\- ") (word roman (codes " - ")) refl refl) (word_reads roman about)

name_section_reads : (name : List ℕ) (about : Option (List ℕ)) → Reads (at_first roman) (name_section name about) (name_section_shown name about) (at_first roman)
unfolding name_section request_text
name_section_reads name about =
    then
    (then
    (then (fixed (codes ".SH NAME\n\\&") (request (codes "SH NAME")) refl refl) (word_reads roman name))
    (about_reads about))
    line_reads

front_reads : (tree : Tree) → Reads (at_first roman) (front_text tree) (front_shown tree) (at_first roman)
unfolding front_text opening_text heading_text request_text
front_reads tree =
    then
    (then
    (then
    (then
    (then (title_reads (full_name tree.node) tree.node.version) (name_section_reads (full_name tree.node) tree.node.about))
    (fixed (codes ".SH SYNOPSIS\n\\&") (request (codes "SH SYNOPSIS")) refl refl))
    (usage_reads tree))
    (fixed (codes ".SH DESCRIPTION\n") (request (codes "SH DESCRIPTION")) refl refl))
    (paragraph_reads (description tree.node))

whole : (tree : Tree) → Reads (at_first roman) (man_page tree) (page_shown tree) (at_first roman)
unfolding man_page page_shown options_section titled_options commands_section titled_commands request_text
whole tree =
    then
    (then
    (then (front_reads tree)
    (when (list_any is_shown_argument tree.node.arguments)
    (then (fixed (codes ".SH OPTIONS\n") (request (codes "SH OPTIONS")) refl refl) (arguments_read tree.node))))
    (notes_read tree.node.after_help))
    (when (has_shown tree.children)
    (then (fixed (codes ".SH COMMANDS\n") (request (codes "SH COMMANDS")) refl refl) (commands_read tree.children)))

pub page_reads_back : (tree : Tree) → ReadsBack tree
page_reads_back tree = (whole tree).shows
