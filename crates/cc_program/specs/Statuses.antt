-- The ends of a program that completes its words or parses them.
use Rattle.std.specs.Prelude.{◌≡◌, ⊤, ℕ, List, Option, Some, Result, Ok, Err}
use Rattle.std.specs.Process.{exit_status}
use Rattle.std.specs.declared.process.ExitCode.{ExitCode}
use Rattle.clap.specs.Values.{kind_of}
use Rattle.clap.specs.declared.error.Error.{Error as ClapError}
use Rattle.clap.specs.declared.parser.matches.ArgMatches.{ArgMatches}
use Rattle.cc_env.specs.Answers.{Told}
use Rattle.cc_env.specs.OwnEnds.{EndsOwn}
use Rattle.cc_base.specs.declared.error.Error.{Error}
use Rattle.cc_base.specs.declared.error.Error.TheVariants.{Memory}
use Rattle.cc_base.specs.declared.sink.Sink.{Ghosts}
use Rattle.cc_command.specs.Built.{built_tree}
use Rattle.cc_command.specs.Tree.{Tree}
use Rattle.cc_env.specs.Wanted.{Wanted, nothing}
use Rattle.cc_env.specs.declared.safe_shell.SafeShell.{SafeShell}
use Rattle.cc_program.specs.Messages.{Explains}
use Rattle.cc_program.specs.declared.failure.Failure.{Failure}
use Rattle.cc_program.specs.declared.failure.Failure.TheVariants.{Library, Own, Words}
use Rattle.cc_program.specs.declared.streams.Streams.{Streams}
use Rattle.cc_program.specs.declared.word_parser.WordParser.{Ghosts as ParserGhosts}

-- ---- words that are parsed

-- the program's own work was done, with status 0, or failed
abbrev pub Carries : {E : Type 0} → (Result (Unit {0}) E → Type 0) → Result ExitCode (Failure E)
    → Type 0
Carries Done (Ok code) = Done (Ok tt) × (exit_status code ≡ 0)
Carries Done (Err (Own error)) = Done (Err error)
Carries Done (Err _) = ⊥

-- the possible results of a parse of some words by a built tree, and the texts that its errors may
-- have
pub record ParserFacts : Type 1 where
  pub Parses : Tree → Result ArgMatches ClapError → Type 0
  pub Says : ClapError → List ℕ → Type 0

-- those of a parser, for these words
abbrev pub parser_facts : {P : Type 0} → ParserGhosts P → P → List (List ℕ) → ParserFacts
parser_facts members parser words = record {
  Parses = λ tree result. members.parses parser tree words result;
  Says = λ error text. members.says parser error text;
}

-- The ends of a program that parses its words by a built tree. `Does` is true of what its own work
-- on some matches may return.
pub data EndsTree {E O X : Type 0} (out : Ghosts O) (err : Ghosts X) (tree : Tree)
    (parser : ParserFacts) (Does : ArgMatches → Result (Unit {0}) E → Type 0)
    (old new : Streams O X) : Result ExitCode (Failure E) → Type 0 where
  -- the work is done on the matches of this parse, and nothing else is written
  carried : (found : ArgMatches) (result : Result ExitCode (Failure E))
      → parser.Parses tree (Ok found) → Carries (Does found) result → new ≡ old
      → EndsTree out err tree parser Does old new result
  -- this parse failed, and the text of its error is written
  refused : (error : ClapError) (result : Result ExitCode (Failure E))
      → parser.Parses tree (Err error)
      → Explains out err (kind_of error) (parser.Says error) old new result
      → EndsTree out err tree parser Does old new result

-- a fact of any matches that the parse of the words by the built tree may return
abbrev pub HoldsOfMatches : (Result Tree Error → Type 0) → ParserFacts → (ArgMatches → Type 0)
    → Type 0
HoldsOfMatches Makes parser Holds = (tree : Tree) → Makes (Ok tree) → (found : ArgMatches)
    → parser.Parses (built_tree tree) (Ok found) → Holds found

-- The ends of a program that parses its words by the tree that it makes. `Makes` is true of what
-- its factory may return.
pub data EndsParse {E O X : Type 0} (out : Ghosts O) (err : Ghosts X)
    (Makes : Result Tree Error → Type 0) (parser : ParserFacts)
    (Does : ArgMatches → Result (Unit {0}) E → Type 0) (old new : Streams O X)
    : Result ExitCode (Failure E) → Type 0 where
  -- there is no tree
  not_made : (error : Error) → Makes (Err error) → new ≡ old
      → EndsParse out err Makes parser Does old new (Err (Library error))
  -- there is no memory for the built tree
  out_of_memory : new ≡ old → EndsParse out err Makes parser Does old new (Err (Library Memory))
  -- the words are parsed by the built tree
  tree_parsed : (tree : Tree) (result : Result ExitCode (Failure E)) → Makes (Ok tree)
      → EndsTree out err (built_tree tree) parser Does old new result
      → EndsParse out err Makes parser Does old new result

-- ---- words that are completed or parsed

-- a shell requests a completion, by a name that may be unknown
abbrev pub IsRequested : Wanted SafeShell → Type 0
IsRequested nothing = ⊥
IsRequested _ = ⊤

-- the program ends with the status after an answer, or with the error of a completion
abbrev pub EndsCompletion : {E : Type 0} → Result (Option ℕ) Error → Result ExitCode (Failure E)
    → Type 0
EndsCompletion (Ok (Some status)) (Ok code) = exit_status code ≡ status
EndsCompletion (Err failure) (Err (Library error)) = error ≡ failure
EndsCompletion _ _ = ⊥

-- The ends of a program. If a shell requests a completion, it completes, and writes nothing to the
-- second stream. If none does, it parses.
pub data EndsProgram {E X : Type 0} (requested : Wanted SafeShell)
    (Completes : Result (Option ℕ) Error → Type 0) (Parses : Result ExitCode (Failure E) → Type 0)
    (old new : X) : Result ExitCode (Failure E) → Type 0 where
  completed : (ended : Result (Option ℕ) Error) (result : Result ExitCode (Failure E))
      → IsRequested requested → Completes ended → EndsCompletion ended result → new ≡ old
      → EndsProgram requested Completes Parses old new result
  parsed : (result : Result ExitCode (Failure E)) → requested ≡ nothing → Parses result
      → EndsProgram requested Completes Parses old new result

-- The same for a program that writes its answer to the first stream, and parses words by the tree
-- that it makes.
abbrev pub EndsOver : {E O X : Type 0} → Ghosts O → Ghosts X → Wanted SafeShell
    → ((Result Tree Error → Type 0) → Result (Option Told) Error → Type 0)
    → (Result Tree Error → Type 0) → ParserFacts → (ArgMatches → Result (Unit {0}) E → Type 0)
    → Streams O X → Streams O X → Result ExitCode (Failure E) → Type 0
EndsOver out err requested Answers Makes parser Does old new result =
    EndsProgram requested
    (λ ended. EndsOwn out.taken out.failed (Answers Makes) old.out new.out ended)
    (EndsParse out err Makes parser Does old new) old.err new.err result

-- ---- a program that reads its words

-- the words could not be read
abbrev pub IsOfWords : {E : Type 0} → Failure E → Type 0
IsOfWords (Words error) = ⊤
IsOfWords _ = ⊥

-- the status that a program ends with; a failure is 1
abbrev pub status_after : {E : Type 0} → Result ExitCode E → ℕ
status_after (Ok code) = exit_status code
status_after (Err error) = 1
