-- The answer to a request of a shell, by a tree file.
use Rattle.std.specs.Prelude.{ℕ, Bool, List, map, Option, None, Some, Result, Ok, Err}
use Rattle.std.specs.Option.{option_copied}
use Rattle.std.specs.String.{string_bytes}
use Rattle.cc_arg.specs.declared.parts.ArgParts.{ArgParts as Arg}
use Rattle.cc_env.specs.Answers.{Answers, Parts as Call, Told, seen}
use Rattle.cc_env.specs.declared.asking.answers.Answer.{Answer}
use Rattle.cc_base.specs.declared.error.Error.{Error}
use Rattle.cc_engine.specs.Paths.{PathsOf}
use Rattle.cc_env.specs.Steps.{names_of}
use Rattle.cc_env.specs.declared.safe_shell.SafeShell.{SafeShell}
use Rattle.cc_candidates.specs.Folders.{FolderFacts}
use Rattle.cc_replies.specs.declared.environment.EnvValues.{EnvValues}
use Rattle.complgen_live.specs.Origins.{is_trusted}
use Rattle.complgen_live.specs.Prepared.{Paths, Prepares, paths_alone, variable}
use Rattle.complgen_live.specs.declared.prepared.Prepared.{Prepared}
use Rattle.complgen_live.specs.declared.reply_errors.ReplyError.{ReplyError}
use Rattle.complgen_live.specs.declared.reply_errors.ReplyError.TheVariants as failed
use Rattle.complgen_live.specs.declared.requests.Request.{Request}

-- what the answer to a request depends on
pub record Parts : Type 1 where
  pub env : EnvValues
  pub words : List (List ℕ)
  -- commands of the tree may be run
  pub trusted : Bool
  -- the bytes of the tree file
  pub file : Option (List ℕ)
  pub current : Option (List ℕ)
  pub Finds : Paths

abbrev pub parts_of : {D : Type 0} → FolderFacts → Request D → Parts
parts_of facts request = record {
  env = request.env.now;
  words = map string_bytes request.words.now;
  trusted = is_trusted request.origin;
  file = option_copied request.file;
  current = option_copied request.current_dir;
  Finds = PathsOf facts (option_copied request.current_dir);
}

-- what the answer for a shell depends on
abbrev pub call_for : Parts → SafeShell → Call
call_for parts shell = record {
  shell = shell;
  names = names_of variable None None parts.current;
  env = parts.env;
  args = parts.words;
  trusted = parts.trusted;
  returned = paths_alone parts.Finds;
}

-- The answer by the tree file and the environment, where `Gives` is true of the lines that an
-- argument may be given.
pub data AnswersRequest (parts : Parts) (Gives : Arg → List ℕ → Type 0)
    : Result (Option Told) ReplyError → Type 0 where
  -- there is no tree file or no request
  not_requested : Prepares parts.env parts.file (Ok None) → AnswersRequest parts Gives (Ok None)
  -- there is no such shell, or no command
  not_prepared : (error : ReplyError) → Prepares parts.env parts.file (Err error)
      → AnswersRequest parts Gives (Err error)
  -- there is no answer
  not_answered : (prepared : Prepared) (error : Error)
      → Prepares parts.env parts.file (Ok (Some prepared))
      → Answers (call_for parts prepared.shell) Gives prepared.command (Err error)
      → AnswersRequest parts Gives (Err (failed.Library error))
  -- there is an answer
  answered : (prepared : Prepared) (told : Told)
      → Prepares parts.env parts.file (Ok (Some prepared))
      → Answers (call_for parts prepared.shell) Gives prepared.command (Ok told)
      → AnswersRequest parts Gives (Ok (Some told))

-- the answer to a request, as what it tells the shell
abbrev pub seen_request : Result (Option Answer) ReplyError → Result (Option Told) ReplyError
seen_request (Ok None) = Ok None
seen_request (Ok (Some answer)) = Ok (Some (seen answer))
seen_request (Err error) = Err error
