-- Lemmas for the sources of an answer, and for writing it.
use Rattle.std.proofs.Common.{◌≡◌, refl, sym, subst, ℕ, Bool, List, [], Option, Some, Result, Ok, Err}
use Rattle.cc_arg.specs.declared.parts.ArgParts.{ArgParts as Arg}
use Rattle.cc_env.specs.Answers.{Answers, Told}
use Rattle.cc_env.specs.WrittenAnswers.{status_of, written_bytes}
use Rattle.cc_base.specs.Writes.{IsWrite, Writes}
use Rattle.cc_base.specs.declared.error.Error.{Error}
use Rattle.cc_base.specs.declared.error.Error.TheVariants.{Write}
use Rattle.cc_base.specs.declared.failures.Failures.{Failures}
use Rattle.cc_candidates.specs.Sources.{ReturnsAt}
use Rattle.cc_candidates.specs.declared.candidate.CompletionCandidate.{CompletionCandidate}
use Rattle.cc_candidates.specs.declared.sources.Source.{Source}
use Rattle.cc_command.specs.Tree.{Tree}
use Rattle.cc_env.specs.declared.safe_shell.SafeShell.{SafeShell}
use Rattle.cc_engine.specs.Values.{MayReturn}
use Rattle.complgen_live.specs.Answers.{Parts, call_for}
use Rattle.complgen_live.specs.Prepared.{Paths, paths_alone}
use Rattle.complgen_live.specs.Replies.{EndsReply, write_failed, written}
use Rattle.complgen_live.specs.declared.reply_errors.ReplyError.{ReplyError}
use Rattle.complgen_live.specs.declared.reply_errors.ReplyError.TheVariants.{Library}

-- without completers and lists only paths are found
pub without_completers : {B C L G : Type 0}
    (Boxes : ℕ → List ℕ → B → List CompletionCandidate → Type 0)
    (Closures : ℕ → List ℕ → C → List CompletionCandidate → Type 0)
    (completers : List B) (added : List (Source B C))
    (ListBoxes : L → List CompletionCandidate → Type 0)
    (ListClosures : G → List CompletionCandidate → Type 0)
    (lists : List L) (added_lists : List (Source L G)) (Finds : Paths)
    → (completers ≡ []) × (added ≡ []) → (lists ≡ []) × (added_lists ≡ [])
    → record {
      completes = λ which number text. ReturnsAt (Boxes number text) (Closures number text)
          completers added which;
      lists = λ which. ReturnsAt ListBoxes ListClosures lists added_lists which;
      finds = Finds;
    } ≡ paths_alone Finds
without_completers Boxes Closures completers added ListBoxes ListClosures lists added_lists Finds none no_lists =
    rw (none.0, none.1, no_lists.0, no_lists.1) refl

-- the answer of a call whose sources have only paths
pub answers_with_paths : (parts : Parts) (shell : SafeShell) (Gives : Arg → List ℕ → Type 0)
    (tree : Tree) (trusted : Bool) (returned : MayReturn) {result : Result Told Error}
    → trusted ≡ parts.trusted → returned ≡ paths_alone parts.Finds
    → Answers (record (call_for parts shell) { trusted = trusted; returned = returned }) Gives tree
    result
    → Answers (call_for parts shell) Gives tree result
answers_with_paths parts shell Gives tree trusted returned {result} as_trusted as_returned answers =
    subst (λ (l : MayReturn). Answers (record (call_for parts shell) { returned = l }) Gives tree
    result) as_returned
    (subst (λ (b : Bool). Answers
    (record (call_for parts shell) { trusted = b; returned = returned }) Gives tree result) as_trusted
    answers)

-- ---- writing it

module _ {S : Type 0} (taken : S → List ℕ) (failures : S → Failures)
    (AnswersWith : Result (Option Told) ReplyError → Type 0) (old new : S) (told : Told)
    (answers : AnswersWith (Ok (Some told))) where
  -- a write fails
  pub unwritten : (error : Error)
      → Writes taken failures (Err error) old new (written_bytes told) → IsWrite error
      → EndsReply taken failures AnswersWith old new (Err (Library error))
  unwritten (Write kind) writes is = write_failed told kind answers writes.begun writes.failures
  unwritten _ writes is = absurd is

  -- the whole answer is written
  pub written_whole : (done : Unit {0}) (status : ℕ) → status ≡ status_of told
      → Writes taken failures (Ok done) old new (written_bytes told)
      → EndsReply taken failures AnswersWith old new (Ok status)
  written_whole done status is writes =
      subst (λ n. EndsReply taken failures AnswersWith old new (Ok n)) (sym is)
      (written told answers writes.ok writes.failures)
