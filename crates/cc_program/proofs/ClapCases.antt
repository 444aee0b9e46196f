-- The promises of `clap` for a parse, by its outcome.
use Rattle.std.proofs.Common.{◌≡◌, ℕ, List, true, false, Result, Ok, Err, IfOk}
use Rattle.std.specs.Prelude.{IfErr}
use Rattle.clap.specs.Faults.{fault_of, is_simple_and_free}
use Rattle.clap.specs.Kinds.{FailsBy}
use Rattle.clap.specs.Values.{kind_of}
use Rattle.clap.specs.Words.{HasMatchesOf, IsParsedFrom, MeetsSubcommandOf, app_of, takes}
use Rattle.clap.specs.declared.builder.command.Command.{Command}
use Rattle.clap.specs.declared.builder.command.Command.TheViews.{out-Command}
use Rattle.clap.specs.declared.error.Error.{Error}
use Rattle.clap.specs.declared.error.kind.ErrorKind.TheVariants.{OutOfMemory}
use Rattle.clap.specs.declared.parser.matches.ArgMatches.{ArgMatches}
use Rattle.cc_command.specs.Tree.{Tree}
use Rattle.cc_program.specs.ClapParses.{IsCommandOf, ParsesWithClap, matched, refused}

pub clap_parses : (tree : Tree) (words : List (List ℕ)) (command : Command) (result : Result ArgMatches Error) → IsCommandOf tree command
    → IfOk result (λ found. IsParsedFrom command found)
    → IfOk result (λ found. (out-Command command).has_globals ≡ false → MeetsSubcommandOf command found)
    → IfOk result (λ found. HasMatchesOf (app_of command) words found)
    → IfErr result (λ error. takes (app_of command) words ≡ true → kind_of error ≡ OutOfMemory)
    → (is_simple_and_free (app_of command) ≡ true → FailsBy (fault_of (app_of command) words) result) → ParsesWithClap tree words result
clap_parses tree words command (Ok found) is parsed meets matches passes kinds = matched command found is parsed meets matches kinds
clap_parses tree words command (Err error) is parsed meets matches passes kinds = refused command error is passes kinds
