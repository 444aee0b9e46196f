-- The answer of a program that completes its own command line, by its own tree.
use Rattle.std.specs.Prelude.{ℕ, true, List, map, Option, None, Some, Result, Ok, Err}
use Rattle.std.specs.Option.{option_copied}
use Rattle.std.specs.String.{string_bytes}
use Rattle.cc_arg.specs.declared.parts.ArgParts.{ArgParts as Arg}
use Rattle.cc_base.specs.declared.error.Error.{Error}
use Rattle.cc_base.specs.declared.sources.CandidateSources.{Ghosts}
use Rattle.cc_candidates.specs.declared.candidate.CompletionCandidate.{CompletionCandidate}
use Rattle.cc_command.specs.Tree.{Tree}
use Rattle.cc_engine.specs.Sources.{returned_of}
use Rattle.cc_engine.specs.declared.sources.Sources.{Sources}
use Rattle.cc_env.specs.SafeShells.{safe_spec}
use Rattle.cc_env.specs.Steps.{Names, names_of}
use Rattle.cc_env.specs.Wanted.{IsUnknownShell, Wanted, known, nothing, unknown, wanted_name, wanted_of}
use Rattle.cc_env.specs.declared.complete_env.CompleteEnv.{CompleteEnv}
use Rattle.cc_env.specs.declared.safe_shell.SafeShell.{SafeShell}
use Rattle.cc_engine.specs.Values.{MayReturn}
use Rattle.cc_candidates.specs.Folders.{FolderFacts}
use Rattle.cc_replies.specs.Environment.{value_of}
use Rattle.cc_replies.specs.declared.environment.EnvValues.{EnvValues}
use Rattle.cc_env.specs.Answers.{Answers, Parts, Told, seen}
use Rattle.cc_env.specs.declared.asking.answers.Answer.{Answer}
use Rattle.cc_env.specs.declared.asking.own_answers.Called.{Called}

-- ---- the request

-- the parts of the answer of a program for a shell: its own tree is trusted
abbrev pub own_parts : (List ℕ → Tree → Names) → EnvValues → List (List ℕ) → MayReturn → SafeShell
    → Parts
own_parts names env args returned shell = record {
  shell = shell;
  names = names;
  env = env;
  args = args;
  trusted = true;
  returned = returned;
}

-- the parts of the answer of a program with this completion, if it is called so, over sources whose
-- folder has these facts
abbrev pub parts_called : {F D C : Type 0} → CompleteEnv F SafeShell → Called
    → Ghosts C CompletionCandidate → FolderFacts → Sources D C → SafeShell → Parts
parts_called completion called members facts sources shell =
    own_parts (names_of completion.variable.now completion.bin completion.completer
    (option_copied sources.current_dir)) called.env.now (map string_bytes called.args.now)
    (returned_of members facts sources) shell

-- the shell that the environment requests of some shells, by the value of a variable
abbrev pub requested_of : List SafeShell → Option (List ℕ) → Wanted SafeShell
requested_of shells value = wanted_of (λ shell. (safe_spec shell).named) shells (wanted_name value)

-- the same for a program with this completion, if it is called so
abbrev pub requested_by : {F : Type 0} → CompleteEnv F SafeShell → Called → Wanted SafeShell
requested_by completion called =
    requested_of completion.shells.0.now (value_of completion.variable.now called.env.now)

-- ---- the answer

-- The answer of a program for the shell that is requested. `names` are those of the known shells,
-- `Makes` is true of what the factory may return, and `Gives` of the lines that an argument may be
-- given.
pub data AnswersOwn (names : List (List ℕ)) (Makes : Result Tree Error → Type 0)
    (parts : SafeShell → Parts) (Gives : Arg → List ℕ → Type 0)
    : Wanted SafeShell → Result (Option Told) Error → Type 0 where
  -- nothing is requested
  not_requested : AnswersOwn names Makes parts Gives nothing (Ok None)
  -- no shell has the name
  unknown_shell : (name : List ℕ) (error : Error) → IsUnknownShell names name error
      → AnswersOwn names Makes parts Gives (unknown name) (Err error)
  -- the factory fails
  not_made : (shell : SafeShell) (error : Error) → Makes (Err error)
      → AnswersOwn names Makes parts Gives (known shell) (Err error)
  -- there is no answer
  not_answered : (shell : SafeShell) (tree : Tree) (error : Error) → Makes (Ok tree)
      → Answers (parts shell) Gives tree (Err error)
      → AnswersOwn names Makes parts Gives (known shell) (Err error)
  -- there is an answer
  answered : (shell : SafeShell) (tree : Tree) (told : Told) → Makes (Ok tree)
      → Answers (parts shell) Gives tree (Ok told)
      → AnswersOwn names Makes parts Gives (known shell) (Ok (Some told))

-- The answer of a program with these shells, by the value of its variable.
abbrev pub AnswersBy : List SafeShell → (Result Tree Error → Type 0) → (SafeShell → Parts)
    → (Arg → List ℕ → Type 0) → Option (List ℕ) → Result (Option Told) Error → Type 0
AnswersBy shells Makes parts Gives value result =
    AnswersOwn (map (λ shell. (safe_spec shell).name) shells) Makes parts Gives
    (requested_of shells value) result

-- The answer of a program with this completion, if it is called so.
abbrev pub AnswersCalled : {F : Type 0} → CompleteEnv F SafeShell → Called → (SafeShell → Parts)
    → (Arg → List ℕ → Type 0) → (Result Tree Error → Type 0) → Result (Option Told) Error → Type 0
AnswersCalled completion called parts Gives Makes result =
    AnswersBy completion.shells.0.now Makes parts Gives
    (value_of completion.variable.now called.env.now) result

-- the answer, as what it tells the shell
abbrev pub seen_own : Result (Option Answer) Error → Result (Option Told) Error
seen_own (Ok None) = Ok None
seen_own (Ok (Some answer)) = Ok (Some (seen answer))
seen_own (Err error) = Err error
