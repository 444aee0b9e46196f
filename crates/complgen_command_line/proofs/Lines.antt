-- Arguments and subcommands that are added to a command line in turn.
use Rattle.std.proofs.Common.{◌≡◌, ◌∙◌, ◌||◌, ap, ap₂, Bool, Result, Ok, Err}
use Rattle.std.specs.Result.{IfOk, IsOkAnd}
use Rattle.clap.specs.Built.{AddsArg, AddsSubcommand}
use Rattle.clap.specs.Words.{App, Rule, app_of, with_rule, with_subcommand}
use Rattle.clap.specs.declared.builder.arg.Arg.{Arg}
use Rattle.clap.specs.declared.builder.command.Command.{Command}
use Rattle.clap.specs.declared.builder.command.Command.TheOpen.{Command-F}
use Rattle.complgen_command_line.specs.CommandLine.{IsLine, IsRule}

-- an argument of a command is global
abbrev pub has_globals : Command-F Command → Bool
has_globals fields = fields.has_globals

module _ {E : Type 0} where
  -- an argument is added to a command
  pub first : (line : App) (rule : Rule) (command : Command) (arg : Arg) (whole : Result Command E)
      → IsLine line command → IsRule rule arg → IfOk whole (AddsArg command arg)
      → IfOk whole (IsLine (with_rule line rule))
  first line rule command arg (Ok whole) is reads adds = record {
    line_is = adds.shape reads.local ∙ ap₂ with_rule is.line_is reads.rule_is;
    local = adds.globals ∙ ap₂ ◌||◌ is.local reads.local;
  }
  first line rule command arg (Err e) is reads adds = tt

  -- an argument is added to a command, if there is one
  pub one_more : (line : App) (rule : Rule) (before whole : Result Command E) (arg : Arg)
      → IfOk before (IsLine line) → IsRule rule arg
      → IfOk whole (λ w. IsOkAnd before (λ command. AddsArg command arg w))
      → IfOk whole (IsLine (with_rule line rule))
  one_more line rule (Ok command) whole arg is reads adds =
      first line rule command arg whole is reads adds
  one_more line rule (Err e) (Ok whole) arg is reads adds = absurd adds
  one_more line rule (Err e) (Err f) arg is reads adds = tt

  -- a subcommand is added to a command line, if there are both
  pub subcommand_added : (line sub : App) (command other whole : Result Command E)
      → IfOk command (λ c. app_of c ≡ line) → IfOk other (IsLine sub)
      → IfOk whole (λ w. IsOkAnd command (λ c. IsOkAnd other (λ s. AddsSubcommand c s w)))
      → IfOk whole (λ w. app_of w ≡ with_subcommand line sub.top)
  subcommand_added line sub (Ok command) (Ok other) (Ok whole) is below adds =
      adds.shape below.local ∙ ap₂ with_subcommand is (ap (λ (a : App). a.top) below.line_is)
  subcommand_added line sub (Ok command) (Err e) (Ok whole) is below adds = absurd adds
  subcommand_added line sub (Err e) other (Ok whole) is below adds = absurd adds
  subcommand_added line sub command other (Err f) is below adds = tt
