-- The outcomes of a check of a tree file.
use Rattle.std.proofs.Common.{◌≡◌, ◌++◌, ℕ, Bool, List, None, Option, Some, Ok, Err, Result, refl, subst, sym}
use Rattle.cc_base.specs.Writes.{Writes}
use Rattle.cc_base.specs.declared.error.Error.{Error}
use Rattle.cc_base.specs.declared.error.Error.TheVariants.{Memory, Write}
use Rattle.cc_base.specs.declared.failures.Failures.{Failures}
use Rattle.complgen_scripts.specs.declared.refusals.Refusal.{Refusal}
use Rattle.complgen_scripts.specs.Refusals.{IsRefusal}
use Rattle.complgen_scripts.specs.Refusals.{Reports, unreadable_line}
use Rattle.complgen_check.specs.declared.errors.finding.Finding.{Finding}
use Rattle.complgen_check.specs.Checking.{EndsCheck, Finds, only_notes, out_of_memory_in_text}
use Rattle.complgen_check.specs.Checking.{printed, unreadable, write_failed}
use Rattle.complgen_check.specs.Report.{report_text}
use Rattle.complgen_check.specs.declared.report.Report.{Report}

-- a beginning of the text is printed
pub not_printed : {S : Type 0} (taken : S → List ℕ) (failed : S → Failures) (bin : Option (List ℕ))
    (report : Report) (bytes : List ℕ) (old new : S) (found shown : List Finding) (error : Error)
    (refusal : Refusal) → Finds bin bytes found → shown ≡ found
    → Writes taken failed (Err error) old new (report_text report bytes shown)
    → Reports error refusal → EndsCheck taken failed bin report old new (Some bytes) (Err refusal)
not_printed taken failed bin report bytes old new found shown Memory refusal finds is wrote reported =
    out_of_memory_in_text bytes shown refusal (subst (Finds bin bytes) (sym is) finds) reported
    wrote.begun wrote.failures
not_printed taken failed bin report bytes old new found shown (Write kind) refusal finds is wrote
    reported =
    write_failed bytes shown kind refusal (subst (Finds bin bytes) (sym is) finds) reported
    wrote.begun wrote.failures
not_printed taken failed bin report bytes old new found shown error refusal finds is wrote reported =
    absurd wrote.kinds

-- all findings are printed, and the result is whether they are notes
pub all_printed : {S : Type 0} (taken : S → List ℕ) (failed : S → Failures) (bin : Option (List ℕ))
    (report : Report) (bytes : List ℕ) (old new : S) (found : List Finding) (told : Bool)
    → Finds bin bytes found → told ≡ only_notes found
    → taken new ≡ taken old ++ report_text report bytes found → failed new ≡ failed old
    → EndsCheck taken failed bin report old new (Some bytes) (Ok told)
all_printed taken failed bin report bytes old new found told finds is took same =
    subst (λ (told : Bool). EndsCheck taken failed bin report old new (Some bytes) (Ok told)) (sym is)
    (printed bytes found finds took same)

module _ {S : Type 0} (taken : S → List ℕ) (failed : S → Failures) (bin : Option (List ℕ))
    (report : Report) where
  -- the file has these bytes
  pub of_file : (file : Option (List ℕ)) (bytes : List ℕ) (old new : S)
      (result : Result Bool Refusal) → file ≡ Some bytes
      → EndsCheck taken failed bin report old new (Some bytes) result
      → EndsCheck taken failed bin report old new file result
  of_file file bytes old new result is ends = subst
      (λ (f : Option (List ℕ)). EndsCheck taken failed bin report old new f result) (sym is) ends

  -- the file can't be read
  pub unread : (file : Option (List ℕ)) (refusal : Refusal) (state : S) → file ≡ None
      → IsRefusal unreadable_line refusal
      → EndsCheck taken failed bin report state state file (Err refusal)
  unread file refusal state is refused = subst
      (λ (f : Option (List ℕ)). EndsCheck taken failed bin report state state f (Err refusal)) (sym is)
      (unreadable refusal refused (record { taken_same = refl; failed_same = refl }))
