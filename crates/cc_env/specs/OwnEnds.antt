-- The outcomes of answering the request to a program and writing the answer.
use Rattle.std.specs.Prelude.{◌≡◌, ◌++◌, ℕ, true, List, Option, None, Some, Result, Ok, Err}
use Rattle.std.specs.declared.io.ErrorKind.{ErrorKind}
use Rattle.cc_env.specs.Answers.{Told}
use Rattle.cc_env.specs.WrittenAnswers.{status_of, written_bytes}
use Rattle.cc_base.specs.Partly.{partly}
use Rattle.cc_base.specs.Sink.{add_failure}
use Rattle.cc_base.specs.declared.error.Error.{Error}
use Rattle.cc_base.specs.declared.error.Error.TheVariants.{Write}
use Rattle.cc_base.specs.declared.failures.Failures.{Failures}

-- The outcomes, with the exit status. Nothing is written unless the whole answer could be made.
pub data EndsOwn {S : Type 0} (taken : S → List ℕ) (failures : S → Failures)
    (AnswersWith : Result (Option Told) Error → Type 0) (old new : S)
    : Result (Option ℕ) Error → Type 0 where
  -- there is no answer, and nothing is written
  not_answered : (error : Error) → AnswersWith (Err error) → new ≡ old
      → EndsOwn taken failures AnswersWith old new (Err error)
  -- nothing is requested, and nothing is written
  not_requested : AnswersWith (Ok None) → new ≡ old
      → EndsOwn taken failures AnswersWith old new (Ok None)
  -- a write failed, which is counted with its kind; a beginning of the answer is taken
  write_failed : (told : Told) (kind : ErrorKind) → AnswersWith (Ok (Some told))
      → partly (taken new) (taken old) (written_bytes told) ≡ true
      → failures new ≡ add_failure kind (failures old)
      → EndsOwn taken failures AnswersWith old new (Err (Write kind))
  -- the answer is written
  written : (told : Told) → AnswersWith (Ok (Some told))
      → taken new ≡ taken old ++ written_bytes told → failures new ≡ failures old
      → EndsOwn taken failures AnswersWith old new (Ok (Some (status_of told)))
