-- The outcomes of writing the script for a tree file.
use Rattle.std.proofs.Common.{◌≡◌, ◌⊎◌, inl, inr, refl, subst, ℕ, List, Option, None, Some, Result}
use Rattle.std.proofs.Common.{true, Ok, Err, OnOk}
use Rattle.complgen_scripts.specs.declared.refusals.Refusal.{Refusal}
use Rattle.cc_command.specs.Built.{built_under}
use Rattle.cc_base.specs.declared.error.Error.{Error}
use Rattle.cc_base.specs.declared.error.Error.TheVariants as error
use Rattle.cc_base.specs.declared.failures.Failures.{Failures}
use Rattle.cc_generator.specs.Generators.{Generates, ReportsClash}
use Rattle.cc_shell.specs.declared.shell.Shell.{Shell}
use Rattle.cc_shell.specs.Shells.{invalid_variant, shell_spec, shell_text}
use Rattle.cc_command.specs.Tree.{Tree}
use Rattle.cc_base.specs.Partly.{partly}
use Rattle.cc_base.specs.Writes.{CountsWrite}
use Rattle.complgen_scripts.specs.Refusals.{IsMade, Reports, shown_line}
use Rattle.complgen_scripts.specs.ScriptEnds.{NamedScriptReads}
use Rattle.complgen_scripts.specs.Scripts.{IsScript, ScriptReads, SharesLabel}
use Rattle.complgen_scripts.specs.Writing.{Finishes}
use Rattle.complgen_scripts.proofs.WritingLemmas.{ends_failed, ends_rejected, ends_without_memory}
use Rattle.complgen_scripts.proofs.WritingLemmas.{ends_written}
use Rattle.complgen_tree_file.specs.TreeFile.{HoldsTree}

-- a failure is not a shell
pub none_found : (shell : Shell) (e : Error)
    → ◌≡◌ {A = Result Shell Error} (Err e) (Ok shell) → ⊥
none_found shell e is = cc

-- the report of a name that no shell has
pub unknown_reported : (name : List ℕ) (e : Error) (refusal : Refusal)
    → (e ≡ error.InvalidVariant (invalid_variant name)) ⊎ (e ≡ error.Memory) → Reports e refusal
    → IsMade (shown_line (error.InvalidVariant (invalid_variant name))) refusal
unknown_reported name e refusal (inl is) reported = subst (λ f. Reports f refusal) is reported
unknown_reported name e refusal (inr is) reported = inl (subst (λ f. Reports f refusal) is reported)

-- the script for the shell with this name reads back
pub named_reads : (shell : Shell) (name bin : List ℕ) (file : Option (List ℕ))
    (result : Result (Unit {0}) Refusal) → name ≡ shell_text shell
    → OnOk result (ScriptReads shell bin file) → OnOk result (NamedScriptReads name bin file)
named_reads shell name bin file (Ok done) is reads = (shell, is, reads)
named_reads shell name bin file (Err refusal) is reads = tt

module _ {S : Type 0} (taken : S → List ℕ) (failed : S → Failures) (shell : Shell)
    (bin : List ℕ) where
  -- the outcomes of writing a script
  abbrev Ends : S → S → Option (List ℕ) → Result (Unit {0}) Refusal → Type 0
  Ends old new file result =
      Finishes taken failed true (SharesLabel shell bin) (IsScript shell bin) old new file result

  -- what the sink counts for an error
  abbrev Counts : Error → S → S → Type 0
  Counts e old new = CountsWrite {T = Unit {0}} (Err e) (failed old) (failed new)

  same_error : (e f : Error) → ◌≡◌ {A = Result (Unit {0}) Error} (Err e) (Err f) → e ≡ f
  same_error e f h = cc

  -- what the generator does if the file describes this command
  abbrev Wrote : Tree → Result (Unit {0}) Error → S → S → Type 0
  Wrote tree result old new =
      Generates taken failed (shell_spec shell) (built_under (Some bin) tree) result old new

  -- a call returns `Ok` only if no label is shared
  none_shared : (clash : Option (List ℕ)) (old new : List ℕ)
      → ReportsClash clash (Ok tt) old new → clash ≡ None
  none_shared None old new reports = refl
  none_shared (Some label) old new (inl clash, unwritten) = cc
  none_shared (Some label) old new (inr out, unwritten) = cc

  -- the script is written
  pub script_written : (old new : S) (file : Option (List ℕ)) (tree : Tree)
      → HoldsTree file tree → Wrote tree (Ok tt) old new → Ends old new file (Ok tt)
  script_written old new file tree held wrote =
      ends_written taken failed true (SharesLabel shell bin) (IsScript shell bin) old new file tree
      ((shell_spec shell).script (built_under (Some bin) tree)) held
      (record { unshared = none_shared _ _ _ wrote.clashes; is = refl }) wrote.ok wrote.failures

  -- what is counted for one error is counted for another if they are the same
  as_counted : (old new : S) (e f : Error) → ◌≡◌ {A = Result (Unit {0}) Error} (Err e) (Err f)
      → Counts e old new → Counts f old new
  as_counted old new e f is counts = subst (λ x. Counts x old new) (same_error e f is) counts

  -- the generator fails, with the label that two nodes share, if they share one
  failed_with : (old new : S) (file : Option (List ℕ)) (tree : Tree) (e : Error) (refusal : Refusal)
      (clash : Option (List ℕ)) → (shell_spec shell).clash (built_under (Some bin) tree) ≡ clash
      → HoldsTree file tree → partly (taken new) (taken old)
      ((shell_spec shell).script (built_under (Some bin) tree)) ≡ true
      → Counts e old new → ReportsClash clash (Err e) (taken old) (taken new)
      → Reports e refusal → Ends old new file (Err refusal)
  failed_with old new file tree e refusal None is held begun counts clashes reported =
      ends_failed taken failed true (SharesLabel shell bin) (IsScript shell bin) old new file tree
      ((shell_spec shell).script (built_under (Some bin) tree)) e refusal refl held
      (record { unshared = is; is = refl }) begun counts clashes reported
  failed_with old new file tree e refusal (Some label) is held begun counts (inl clash, unwritten)
      reported =
      ends_rejected taken failed true (SharesLabel shell bin) (IsScript shell bin) old new file tree
      refusal held
      (record {
        label = label;
        shared = is;
        reported = subst (λ e. Reports e refusal) (same_error e _ clash) reported;
      })
      (record { taken_same = unwritten; failed_same = as_counted old new e _ clash counts })
  failed_with old new file tree e refusal (Some label) is held begun counts (inr out, unwritten)
      reported =
      ends_without_memory taken failed true (SharesLabel shell bin) (IsScript shell bin) old new file
      tree refusal held
      (subst (λ e. Reports e refusal) (same_error e _ out) reported)
      (record { taken_same = unwritten; failed_same = as_counted old new e _ out counts })

  -- the generator fails
  pub script_failed : (old new : S) (file : Option (List ℕ)) (tree : Tree) (e : Error)
      (refusal : Refusal) → HoldsTree file tree → Wrote tree (Err e) old new
      → Reports e refusal → Ends old new file (Err refusal)
  script_failed old new file tree e refusal held wrote reported =
      failed_with old new file tree e refusal ((shell_spec shell).clash (built_under (Some bin) tree)) refl
      held
      wrote.begun wrote.failures wrote.clashes reported
