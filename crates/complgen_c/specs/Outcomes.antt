-- The outcome of a call, and how an exported function returns it.
use Rattle.std.specs.Prelude.{◌≡◌, ◌≤◌, ◌<◌, ◌++◌, ℕ, List, [], length, drop}
use Rattle.cc_base.specs.declared.failures.Failures.{Failures}
use Rattle.complgen_scripts.specs.Refusals as refusals
use Rattle.complgen_scripts.specs.declared.refusals.Refusal.{Refusal}
use Rattle.complgen_c.specs.declared.outcome.Outcome.{Outcome}
use Rattle.complgen_c.specs.declared.outcome.Outcome.TheVariants.{Failed, Made, MadeWithoutSpace, NotRequested, NotUtf8, Run, WantsFolder}

abbrev pub status_of : Outcome → ℕ
status_of (Made text) = 0
status_of (Failed refusal) = 1
status_of NotUtf8 = 2
status_of NotRequested = 3
status_of (WantsFolder path) = 4
status_of (Run words) = 5
status_of (MadeWithoutSpace text) = 6

abbrev pub text_of : Outcome → List ℕ
text_of (Made text) = text
text_of (Failed refusal) = refusals.text_of refusal
text_of NotUtf8 = []
text_of NotRequested = []
text_of (WantsFolder path) = path
text_of (Run words) = words
text_of (MadeWithoutSpace text) = text

-- The text is at the start of the room if it fits there. Otherwise the room is unchanged. The count
-- is the length of the text.
pub record Copies (text old new : List ℕ) (count : ℕ) : Type 0 where
  pub counts : count ≡ length text
  pub fits : length text ≤ length old → new ≡ text ++ drop (length text) old
  pub too_long : length old < length text → new ≡ old

-- an outcome is returned: as its status, its text in the room, and the length of the text
pub record Returns (outcome : Outcome) (old new : List ℕ) (status count : ℕ) : Type 0 where
  pub status_is : status ≡ status_of outcome
  pub copies : Copies (text_of outcome) old new count

-- the call has a possible outcome, and returns it
pub record EndsAs (MayEnd : Outcome → Type 0) (old new : List ℕ) (status count : ℕ) : Type 0 where
  pub outcome : Outcome
  pub may_end : MayEnd outcome
  pub returns : Returns outcome old new status count

-- Making a text in memory fails: for this reason if no write failed, or else because memory ran
-- out.
pub record FailsInMemory (failures : Failures) (Reason : Refusal → Type 0) (refusal : Refusal)
    : Type 0 where
  pub none_failed : failures.count ≡ 0 → Reason refusal
  pub some_failed : 0 < failures.count → refusals.IsOutOfMemory refusal
