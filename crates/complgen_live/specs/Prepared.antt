-- The shell and the command of a request.
use Rattle.std.specs.Prelude.{◌≡◌, ℕ, List, [], map, codes, Option, None, Some, Result, Ok, Err}
use Rattle.cc_arg.specs.declared.value_hint.ValueHint.{ValueHint}
use Rattle.cc_base.specs.declared.error.Error.{Error}
use Rattle.cc_base.specs.declared.error.Error.TheVariants.{Memory}
use Rattle.cc_candidates.specs.declared.candidate.CompletionCandidate.{CompletionCandidate}
use Rattle.cc_command.specs.Tree.{Tree}
use Rattle.cc_env.specs.SafeShells.{all_safe, safe_spec}
use Rattle.cc_env.specs.Wanted.{IsUnknownShell, Wanted, known, nothing, unknown, wanted_name, wanted_of}
use Rattle.cc_env.specs.declared.safe_shell.SafeShell.{SafeShell}
use Rattle.cc_engine.specs.Values.{MayReturn}
use Rattle.cc_replies.specs.Environment.{value_of}
use Rattle.cc_replies.specs.declared.environment.EnvValues.{EnvValues}
use Rattle.complgen_tree_file.specs.TreeFile.{Describes}
use Rattle.complgen_tree_file.specs.declared.error.TreeError.{TreeError}
use Rattle.complgen_live.specs.TreeErrors.{IsBad}
use Rattle.complgen_live.specs.declared.prepared.Prepared.{Prepared}
use Rattle.complgen_live.specs.declared.reply_errors.ReplyError.{ReplyError}
use Rattle.complgen_live.specs.declared.reply_errors.ReplyError.TheVariants as failed

-- the variable whose value names the shell
abbrev pub variable : List ℕ
variable = codes "COMPLETE"

-- the request: for nothing, for a shell that is unknown, or for a known shell
abbrev pub requested : EnvValues → Wanted SafeShell
requested env = wanted_of (λ shell. (safe_spec shell).named) all_safe
    (wanted_name (value_of variable env))

-- the names of the shells
abbrev pub shell_names : List (List ℕ)
shell_names = map (λ shell. (safe_spec shell).name) all_safe

-- the paths that may be found for a value hint and a text
abbrev pub Paths : Type 1
Paths = ValueHint → List ℕ → List CompletionCandidate → Type 0

-- there are no completers and no lists, so no number has candidates, and only paths are found
abbrev pub paths_alone : Paths → MayReturn
paths_alone Finds = record {
  completes = λ which number text found. found ≡ [];
  lists = λ which found. found ≡ [];
  finds = Finds;
}

-- The shell that is requested, and the command that the tree file describes; none without a file or
-- a request.
pub data Prepares (env : EnvValues) : Option (List ℕ) → Result (Option Prepared) ReplyError
    → Type 0 where
  -- there is no tree file
  no_tree : Prepares env None (Ok None)
  -- nothing is requested
  no_request : (bytes : List ℕ) → requested env ≡ nothing → Prepares env (Some bytes) (Ok None)
  -- no shell has the name
  unknown_shell : (bytes name : List ℕ) (error : Error) → requested env ≡ unknown name
      → IsUnknownShell shell_names name error
      → Prepares env (Some bytes) (Err (failed.Library error))
  -- the file describes no command
  bad_tree : (bytes : List ℕ) (shell : SafeShell) (problem : TreeError) → requested env ≡ known shell
      → IsBad problem bytes → Prepares env (Some bytes) (Err (failed.Tree problem))
  -- out of memory
  out_of_memory : (bytes : List ℕ) → Prepares env (Some bytes) (Err (failed.Library Memory))
  -- the shell and the command
  ready : (bytes : List ℕ) (shell : SafeShell) (tree : Tree) → requested env ≡ known shell
      → Describes bytes (Some tree)
      → Prepares env (Some bytes) (Ok (Some (record { shell = shell; command = tree })))
