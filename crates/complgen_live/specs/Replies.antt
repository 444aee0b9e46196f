-- The outcomes of writing the answer to a request.
use Rattle.std.specs.Prelude.{◌≡◌, ◌++◌, ℕ, true, List, Option, None, Some, Result, Ok, Err}
use Rattle.std.specs.declared.io.ErrorKind.{ErrorKind}
use Rattle.cc_env.specs.Answers.{Told}
use Rattle.cc_env.specs.WrittenAnswers.{status_of, written_bytes}
use Rattle.cc_base.specs.Partly.{partly}
use Rattle.cc_base.specs.Sink.{add_failure}
use Rattle.cc_base.specs.declared.error.Error.TheVariants.{Write}
use Rattle.cc_base.specs.declared.failures.Failures.{Failures}
use Rattle.complgen_live.specs.declared.reply_errors.ReplyError.{ReplyError}
use Rattle.complgen_live.specs.declared.reply_errors.ReplyError.TheVariants as failed

-- The outcomes, with the exit status. Nothing is written unless the whole answer could be made.
pub data EndsReply {S : Type 0} (taken : S → List ℕ) (failures : S → Failures)
    (AnswersWith : Result (Option Told) ReplyError → Type 0) (old new : S)
    : Result ℕ ReplyError → Type 0 where
  -- there is no answer, and nothing is written
  not_answered : (error : ReplyError) → AnswersWith (Err error) → new ≡ old
      → EndsReply taken failures AnswersWith old new (Err error)
  -- there is no tree file or no request, and nothing is written
  not_requested : AnswersWith (Ok None) → new ≡ old
      → EndsReply taken failures AnswersWith old new (Ok 1)
  -- a write failed, which is counted with its kind; a beginning of the answer is written
  write_failed : (told : Told) (kind : ErrorKind) → AnswersWith (Ok (Some told))
      → partly (taken new) (taken old) (written_bytes told) ≡ true → failures new ≡ add_failure kind (failures old)
      → EndsReply taken failures AnswersWith old new (Err (failed.Library (Write kind)))
  -- the answer is written
  written : (told : Told) → AnswersWith (Ok (Some told))
      → taken new ≡ taken old ++ written_bytes told → failures new ≡ failures old
      → EndsReply taken failures AnswersWith old new (Ok (status_of told))
