-- The outcomes of making a script in memory, if no write fails.
use Rattle.std.specs.Prelude.{ℕ, List, [], Some, Result, Ok, Err}
use Rattle.std.specs.Str.{IsUtf8}
use Rattle.cc_base.specs.Sink.{none_failed}
use Rattle.complgen_scripts.specs.declared.refusals.Refusal.{Refusal}
use Rattle.complgen_scripts.specs.ScriptEnds.{EndsScript, NamedScriptReads}
use Rattle.complgen_c.specs.declared.outcome.Outcome.{Outcome}
use Rattle.complgen_c.specs.declared.outcome.Outcome.TheVariants.{Failed, Made, NotUtf8}

-- the outcomes of writing a script as `run` does, if exactly this text is written and no write
-- fails
abbrev pub EndsWithText : List ℕ → List ℕ → List ℕ → List ℕ → Result (Unit {0}) Refusal → Type 0
EndsWithText shell bin tree text result =
    EndsScript (λ written. written) (λ written. none_failed) shell bin (Some tree) [] text result

-- the outcomes of the call, for the name of a shell, a bin name and a tree file
pub data MakesScript (shell bin tree : List ℕ) : Outcome → Type 0 where
  -- a name is not UTF-8
  not_utf8 : (IsUtf8 shell → IsUtf8 bin → ⊥) → MakesScript shell bin tree NotUtf8
  -- the script, which reads back
  made : (text : List ℕ) → EndsWithText shell bin tree text (Ok tt)
      → NamedScriptReads shell bin (Some tree) → MakesScript shell bin tree (Made text)
  -- there is no script, and the message gives the reason
  failed : (refusal : Refusal) → EndsWithText shell bin tree [] (Err refusal)
      → MakesScript shell bin tree (Failed refusal)
