-- The ends of a program that runs over the system.
use Rattle.std.specs.Prelude.{ℕ, List, Option, None, Result, Err, codes}
use Rattle.std.specs.declared.alloc.Global.{Global}
use Rattle.std.specs.declared.process.ExitCode.{ExitCode}
use Rattle.clap.specs.declared.parser.matches.ArgMatches.{ArgMatches}
use Rattle.cc_env.specs.OwnAnswers.{AnswersBy, own_parts, requested_of}
use Rattle.cc_base.specs.declared.error.Error.{Error}
use Rattle.cc_base.specs.declared.error.Error.TheVariants.{Memory}
use Rattle.cc_command.specs.Tree.{Tree}
use Rattle.cc_env.specs.SafeShells.{all_safe}
use Rattle.cc_env.specs.Steps.{names_of}
use Rattle.cc_env.specs.declared.safe_shell.SafeShell.{SafeShell}
use Rattle.cc_engine.specs.Values.{MayReturn}
use Rattle.cc_lines.specs.SystemLines.{SystemGives}
use Rattle.cc_program.specs.ClapParses.{clap_facts}
use Rattle.cc_program.specs.Seen.{Seen, seen_by, unused}
use Rattle.cc_program.specs.Statuses.{EndsOver, IsOfWords}
use Rattle.cc_program.specs.declared.failure.Failure.{Failure}
use Rattle.cc_program.specs.declared.failure.Failure.TheVariants.{Library}
use Rattle.cc_program.specs.declared.streams.Streams.{Streams}
use Rattle.cc_replies.specs.Environment.{value_of}
use Rattle.cc_replies.specs.declared.environment.EnvValues.{EnvValues}

-- The ends over some words and environment variables, if relative paths begin at this directory,
-- with this variable, binary and completer, these shells, and `clap` as the parser. `new` is what
-- the standard output and the standard error have taken at the end.
abbrev pub EndsRun : {E : Type 0} → (Result Tree Error → Type 0)
    → (ArgMatches → Result (Unit {0}) E → Type 0) → MayReturn → List (List ℕ) → EnvValues
    → Option (List ℕ) → List ℕ → Option (List ℕ) → Option (List ℕ) → List SafeShell
    → Streams Seen Seen → Result ExitCode (Failure E) → Type 0
EndsRun Makes Does returned words env current variable bin completer shells new result =
    EndsOver seen_by seen_by (requested_of shells (value_of variable env))
    (λ makes told. AnswersBy shells makes
    (own_parts (names_of variable bin completer current) env words returned) SystemGives
    (value_of variable env) told) Makes (clap_facts words) Does unused new result

-- The ends of a program that reads its words and its environment. It can't read the words; there is
-- no memory for the environment; or it ends so for some words, environment variables, current
-- directory and home directory, with the commands that the factory makes, the variable `COMPLETE`,
-- neither a binary nor a completer set, and the safe shells.
pub data Runs {E F : Type 0} (factory : F) (Ends : Global → List (List ℕ) → EnvValues
    → Option (List ℕ) → Option (List ℕ) → F → List ℕ → Option (List ℕ) → Option (List ℕ)
    → List SafeShell → Streams Seen Seen → Result ExitCode (Failure E) → Type 0)
    : Result ExitCode (Failure E) → Type 0 where
  unread : (failure : Failure E) → IsOfWords failure → Runs factory Ends (Err failure)
  no_environment : Runs factory Ends (Err (Library Memory))
  ended : (alloc : Global) (words : List (List ℕ)) (env : EnvValues)
      (current home : Option (List ℕ)) (new : Streams Seen Seen)
      (result : Result ExitCode (Failure E))
      → Ends alloc words env current home factory (codes "COMPLETE") None None all_safe new result
      → Runs factory Ends result
