-- The command line: the words that the program accepts.
use Rattle.std.specs.Prelude.{◌≡◌, Some, true, false, codes}
use Rattle.clap.specs.Lexer.{usize_max}
use Rattle.clap.specs.Simple.{on_top}
use Rattle.clap.specs.Words.{App, Rule, Text, app_of, new_app, new_rule, rule_of, with_rule}
use Rattle.clap.specs.Words.{with_subcommand}
use Rattle.clap.specs.declared.builder.action.ArgAction.TheVariants.{SetTrue}
use Rattle.clap.specs.declared.builder.arg.Arg.{Arg}
use Rattle.clap.specs.declared.builder.command.Command.{Command}
use Rattle.clap.specs.declared.builder.command.Command.TheViews.{out-Command}

-- the argument has this rule, and is not global
pub record IsRule (rule : Rule) (arg : Arg) : Type 0 where
  pub rule_is : rule_of arg ≡ rule
  pub local : arg.global ≡ false

-- the command is this command line, and has no global argument
pub record IsLine (line : App) (command : Command) : Type 0 where
  pub line_is : app_of command ≡ line
  pub local : (out-Command command).has_globals ≡ false

-- `--NAME VALUE`, which is required
abbrev pub option_rule : Text → Rule
option_rule name = record (new_rule name) { long = Some name; value_names = 1; required = true }

-- `TREE`, which is required
abbrev pub tree_rule : Rule
tree_rule = record (new_rule (codes "tree")) { value_names = 1; required = true }

-- `--NAME VALUE`, which is not required
abbrev pub optional_rule : Text → Rule
optional_rule name = record (new_rule name) { long = Some name; value_names = 1 }

-- the flag `--NAME`
abbrev pub flag_rule : Text → Rule
flag_rule name = record (new_rule name) { long = Some name; action = Some SetTrue }

-- `WORDS`, any number of them
abbrev pub words_rule : Rule
words_rule = record (new_rule (codes "words")) {
  value_names = 1;
  range = Some (record { start_inclusive = 0; end_inclusive = usize_max });
}

-- `NAME --shell S --bin N TREE`
abbrev pub shell_line : Text → App
shell_line name = with_rule (with_rule (with_rule (new_app name)
    (option_rule (codes "shell"))) (option_rule (codes "bin"))) tree_rule

-- `scripts --bin NAME --out-dir DIR TREE`
abbrev pub scripts_line : App
scripts_line = with_rule (with_rule (with_rule (new_app (codes "scripts"))
    (option_rule (codes "bin"))) (option_rule (codes "out-dir"))) tree_rule

-- `candidates --index I [--values FILE] TREE WORDS..`
abbrev pub candidates_line : App
candidates_line = with_rule (with_rule (with_rule (with_rule (new_app (codes "candidates"))
    (option_rule (codes "index"))) (optional_rule (codes "values"))) tree_rule) words_rule

-- `wanted --index I TREE WORDS..`
abbrev pub wanted_line : App
wanted_line = with_rule (with_rule (with_rule (new_app (codes "wanted"))
    (option_rule (codes "index"))) tree_rule) words_rule

-- `check [--bin NAME] [--json] TREE`
abbrev pub check_line : App
check_line = with_rule (with_rule (with_rule (new_app (codes "check"))
    (optional_rule (codes "bin"))) (flag_rule (codes "json"))) tree_rule

-- `man --bin NAME TREE`
abbrev pub man_line : App
man_line = with_rule (with_rule (new_app (codes "man")) (option_rule (codes "bin"))) tree_rule

-- the program requires a subcommand, and has a version
abbrev pub top_line : App
top_line = on_top (λ s. record s {
  has_version = true;
  subcommand_required = true;
  disable_help_subcommand = true;
}) (new_app (codes "complgen"))

-- the program with the subcommands that write scripts and registrations
abbrev pub writing_line : App
writing_line = with_subcommand (with_subcommand (with_subcommand top_line
    (shell_line (codes "script")).top) scripts_line.top) (shell_line (codes "register")).top

-- the program with the subcommands that complete a word, too
abbrev pub asking_line : App
asking_line = with_subcommand (with_subcommand writing_line candidates_line.top) wanted_line.top

-- the program with `check`, too
abbrev pub checking_line : App
checking_line = with_subcommand asking_line check_line.top

-- the whole command line
abbrev pub program_line : App
program_line = with_subcommand checking_line man_line.top
