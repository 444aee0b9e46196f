-- The outcomes of writing a text that was made before.
use Rattle.std.proofs.Common.{◌≡◌, subst, sym, ℕ, false, List, Option, Ok, Err}
use Rattle.cc_base.specs.Writes.{IsWrite, Writes}
use Rattle.cc_base.specs.declared.error.Error.{Error}
use Rattle.cc_base.specs.declared.failures.Failures.{Failures}
use Rattle.cc_command.specs.Tree.{Tree}
use Rattle.complgen_scripts.specs.Refusals.{Reports}
use Rattle.complgen_scripts.specs.Writing.{Finishes}
use Rattle.complgen_scripts.specs.declared.refusals.Refusal.{Refusal}
use Rattle.complgen_scripts.proofs.WritingLemmas.{ends_cut_off, ends_written}
use Rattle.complgen_tree_file.specs.TreeFile.{HoldsTree}

module _ {S : Type 0} (taken : S → List ℕ) (failed : S → Failures)
    (Rejects : Tree → Refusal → Type 0) (IsText : Tree → List ℕ → Type 0) where
  -- the text is made, and written
  pub text_written : (old new : S) (file : Option (List ℕ)) (tree : Tree) (text shown : List ℕ)
      → HoldsTree file tree → IsText tree text → shown ≡ text
      → Writes taken failed (Ok tt) old new shown
      → Finishes taken failed false Rejects IsText old new file (Ok tt)
  text_written old new file tree text shown held is all wrote =
      ends_written taken failed false Rejects IsText old new file tree shown held
      (subst (IsText tree) (sym all) is) wrote.ok wrote.failures

  -- the text is made, and writing it fails
  pub text_cut_off : (old new : S) (file : Option (List ℕ)) (tree : Tree) (text shown : List ℕ)
      (e : Error) (refusal : Refusal) → HoldsTree file tree → IsText tree text → shown ≡ text
      → Writes taken failed (Err e) old new shown → IsWrite e → Reports e refusal
      → Finishes taken failed false Rejects IsText old new file (Err refusal)
  text_cut_off old new file tree text shown e refusal held is all wrote kind reported =
      ends_cut_off taken failed false Rejects IsText old new file tree shown e refusal held
      (subst (IsText tree) (sym all) is) wrote.begun wrote.failures kind reported
