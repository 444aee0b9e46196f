-- The texts of small pages, and the signs that a reader of roff finds in hostile ones.
use Rattle.std.proofs.Common.{◌≡◌, true, [], ◌∷◌, ◌++◌, codes, refl, Some}
use Rattle.cc_arg.specs.Arguments.{new_arg}
use Rattle.cc_arg.specs.PossibleValues.{new_possible_value}
use Rattle.cc_command.specs.Made.{new_node}
use Rattle.cc_command.specs.Tree.{none, more}
use Rattle.complgen_man.specs.Page.{alias_line, argument_text, arguments_text, bold_text, command_head, command_mark, command_text, commands_section, default_line, described_text, front_text, heading_text, label_text, listed_text, man_page, name_section, name_text, opening_text, options_mark, options_section, paragraph_text, possible_text, request_text, source_text, spaced_values, synopsis_text, title_text, titled_commands, titled_options, usage_text, value_line, value_text, values_text}
use Rattle.complgen_man.specs.Reader.{line_end, read_page, roman}
use Rattle.complgen_man.specs.Roff.{escaped_prose, escaped_word}
use Rattle.complgen_man.specs.Shown.{request, word}

escape_rows :
    (escaped_word (codes "a-b\\c'd\"e`f^g~h") ≡ codes "a\\-b\\(rsc\\(aqd\\(dqe\\(gaf\\(hag\\(tih")
    × (escaped_word (codes "a\n.b\tc") ≡ codes "a .b c")
    × (escaped_prose (codes "a\n.b\n'c") ≡ codes "a\n.br\n\\&.b\n.br\n\\&\\(aqc")
unfolding escaped_word escaped_prose request_text
escape_rows = (refl, refl, refl)

-- a line of a help text that looks like a request
hostile_row :
    read_page (paragraph_text (codes ".so x\n\\fB"))
    ≡ word roman (codes ".so x") ++ line_end ∷ request (codes "br") ++ word roman (codes "\\fB") ++ line_end ∷ []
unfolding paragraph_text escaped_prose request_text
hostile_row = refl

-- an option with its possible values and its default value
option_row :
    argument_text (record (new_arg (codes "when")) {
      short = Some 119;
      long = Some (codes "when");
      help = Some (codes "Use it");
      default_value = Some (codes "no");
      possible_values = Some ((record (new_possible_value (codes "no")) { help = Some (codes "Never") })
          ∷ (record (new_possible_value (codes "x")) { hide = true }) ∷ new_possible_value (codes "on") ∷ []);
    })
    ≡ codes ".TP\n\\&\\fB\\-w\\fR, \\fB\\-\\-when\\fR \\fI<when>\\fR\n\\&Use it\n.br\nPossible values: \\fBno\\fR (Never), \\fBon\\fR\n.br\nDefault: \\fBno\\fR\n"
unfolding argument_text label_text values_text spaced_values value_text name_text described_text paragraph_text listed_text value_line possible_text bold_text default_line escaped_word escaped_prose lib.Utf8.encode request_text
option_row = refl

-- a root with a positional, a hidden subcommand and one with an alias
page_row :
    man_page (record {
      node = record (new_node (codes "app")) { about = Some (codes "An app"); version = Some (codes "1"); arguments = new_arg (codes "FILE") ∷ [] };
      children = more (record (new_node (codes "x")) { hide = true }) none
          (more (record (new_node (codes "add")) { visible_aliases = codes "a" ∷ [] }) none none);
    })
    ≡ codes ".TH \"app\" \"1\" \"\" \"app 1\" \"User Commands\"\n.nh\n.SH NAME\n\\&app \\- An app\n.SH SYNOPSIS\n\\&\\fBapp\\fR [\\fI<FILE>\\fR] [\\fICOMMAND\\fR]\n.SH DESCRIPTION\n\\&An app\n.SH OPTIONS\n.TP\n\\&[\\fI<FILE>\\fR]\n\\&\n.SH COMMANDS\n.SS \"add\"\n\\&\\fBadd\\fR\n.br\nAliases: \\fBa\\fR\n.PP\n\\&\n"
unfolding man_page front_text opening_text alias_line titled_options heading_text title_text source_text name_section usage_text synopsis_text options_mark command_mark bold_text paragraph_text options_section arguments_text argument_text label_text values_text spaced_values value_text described_text commands_section titled_commands command_text command_head escaped_word escaped_prose request_text
page_row = refl
