-- The outcomes of writing what is wrong with a tree file.
use Rattle.std.proofs.Common.{◌≡◌, ℕ, Bool, true, false, IsTrue, List, Option, None, Some, Ok, Err, refl, subst, sym}
use Rattle.cc_base.specs.declared.failures.Failures.{Failures}
use Rattle.complgen_check.specs.Checking.{AreSound, EndsCheck}
use Rattle.complgen_check.specs.declared.report.Report.{Report}
use Rattle.complgen_scripts.proofs.WritingLemmas.{same}
use Rattle.complgen_scripts.specs.Refusals.{IsMade, unreadable_at}
use Rattle.complgen_scripts.specs.declared.refusals.Refusal.{Refusal}
use Rattle.complgen_plans.specs.Checks.{EndsFindings, report_of, status_of}

module _ {S : Type 0} (taken : S → List ℕ) (failed : S → Failures) (bin : Option (List ℕ))
    (json : Bool) (path : List ℕ) where
  -- the file can't be read
  pub findings_unread : (state : S) (file : Option (List ℕ)) (refusal : Refusal) → file ≡ None
      → IsMade (unreadable_at path) refusal
      → EndsFindings taken failed bin json path state state file (Err refusal)
  findings_unread state file refusal is made = subst
      (λ (f : Option (List ℕ)). EndsFindings taken failed bin json path state state f (Err refusal))
      (sym is) (made, same taken failed state)

  -- no findings, or not all, are printed
  pub findings_failed : (old new : S) (file : Option (List ℕ)) (bytes : List ℕ) (report : Report)
      (refusal : Refusal) → file ≡ Some bytes → report ≡ report_of json
      → EndsCheck taken failed bin report old new (Some bytes) (Err refusal)
      → EndsFindings taken failed bin json path old new file (Err refusal)
  findings_failed old new file bytes report refusal is form ends = subst
      (λ (f : Option (List ℕ)). EndsFindings taken failed bin json path old new f (Err refusal))
      (sym is)
      (subst (λ (r : Report). EndsCheck taken failed bin r old new (Some bytes) (Err refusal)) form ends)

  -- the findings are printed
  pub findings_told : (old new : S) (file : Option (List ℕ)) (bytes : List ℕ) (report : Report)
      (clean : Bool) (status : ℕ) → file ≡ Some bytes → report ≡ report_of json
      → status ≡ status_of clean
      → EndsCheck taken failed bin report old new (Some bytes) (Ok clean)
      → EndsFindings taken failed bin json path old new file (Ok status)
  findings_told old new file bytes report clean status is form tells ends = subst
      (λ (f : Option (List ℕ)). EndsFindings taken failed bin json path old new f (Ok status))
      (sym is) (
        clean,
        tells,
        subst (λ (r : Report).
            EndsCheck taken failed bin r old new (Some bytes) (Ok clean)) form ends,
      )

-- if the status is 0, the premises hold
pub findings_sound : (bin : Option (List ℕ)) (file : Option (List ℕ)) (bytes : List ℕ) (clean : Bool)
    (status : ℕ) → file ≡ Some bytes → status ≡ status_of clean
    → (IsTrue clean → AreSound bin (Some bytes)) → status ≡ 0 → AreSound bin file
findings_sound bin file bytes true status is tells sound zero =
    subst (AreSound bin) (sym is) (sound refl)
findings_sound bin file bytes false status is tells sound zero = cc
