-- The outcomes of `check`, with its exit status.
use Rattle.std.specs.Prelude.{◌≡◌, ℕ, Bool, true, false, List, Option, None, Some, Result, Ok, Err}
use Rattle.cc_base.specs.declared.failures.Failures.{Failures}
use Rattle.complgen_check.specs.Checking.{EndsCheck}
use Rattle.complgen_check.specs.declared.report.Report.{Report}
use Rattle.complgen_check.specs.declared.report.Report.TheVariants.{Json, Lines}
use Rattle.complgen_scripts.specs.Refusals.{IsMade, unreadable_at}
use Rattle.complgen_scripts.specs.Writing.{Untouched}
use Rattle.complgen_scripts.specs.declared.refusals.Refusal.{Refusal}

-- the form of the findings
abbrev pub report_of : Bool → Report
report_of true = Json
report_of false = Lines

-- the exit status if there is nothing but notes, and if there is more
abbrev pub status_of : Bool → ℕ
status_of true = 0
status_of false = 1

-- outcomes that tell whether there is nothing but notes, with that as the exit status
abbrev pub Tells : (Result Bool Refusal → Type 0) → Result ℕ Refusal → Type 0
Tells EndsBy (Ok status) = (clean : Bool) × (status ≡ status_of clean) × EndsBy (Ok clean)
Tells EndsBy (Err refusal) = EndsBy (Err refusal)

-- the outcomes for the tree file at a path, which is named if it can't be read
abbrev pub EndsFindings : {S : Type 0} → (S → List ℕ) → (S → Failures) → Option (List ℕ) → Bool
    → List ℕ → S → S → Option (List ℕ) → Result ℕ Refusal → Type 0
EndsFindings taken failed bin json path old new None (Ok status) = ⊥
EndsFindings taken failed bin json path old new None (Err refusal) =
    IsMade (unreadable_at path) refusal × Untouched taken failed old new
EndsFindings taken failed bin json path old new (Some bytes) result =
    Tells (EndsCheck taken failed bin (report_of json) old new (Some bytes)) result
