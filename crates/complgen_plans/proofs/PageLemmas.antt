-- The outcomes of writing a man page, one by one.
use Rattle.std.proofs.Common.{inl, inr, ℕ, List, Option, None, Some, Ok, Err}
use Rattle.cc_base.specs.Writes.{Writes}
use Rattle.cc_base.specs.declared.error.Error.{Error}
use Rattle.cc_base.specs.declared.error.Error.TheVariants as error
use Rattle.cc_base.specs.declared.failures.Failures.{Failures}
use Rattle.cc_command.specs.Built.{built_under}
use Rattle.cc_command.specs.Tree.{Tree}
use Rattle.complgen_scripts.proofs.WritingLemmas.{same}
use Rattle.complgen_scripts.specs.Refusals.{Reports}
use Rattle.complgen_scripts.specs.TreeFiles.{ReportsFileAt}
use Rattle.complgen_scripts.specs.declared.refusals.Refusal.{Refusal}
use Rattle.complgen_man.specs.Outcome.{LeavesBuilt}
use Rattle.complgen_man.specs.Page.{man_page}
use Rattle.complgen_man.specs.Shown.{ReadsBack}
use Rattle.complgen_plans.specs.Pages.{EndsPage, no_tree, out_of_memory, write_failed, written}
use Rattle.complgen_tree_file.specs.TreeFile.{HoldsTree}
use Rattle.complgen_tree_file.specs.declared.error.TreeError.TheVariants as tree_error

module _ {S : Type 0} (taken : S → List ℕ) (failed : S → Failures) (bin path : List ℕ) where
  -- no command is read
  pub page_unread : (state : S) (file : Option (List ℕ)) (refusal : Refusal)
      → ReportsFileAt path file refusal
      → EndsPage taken failed bin path state state file (Err refusal)
  page_unread state None refusal reported =
      no_tree None refusal reported (same taken failed state)
  page_unread state (Some bytes) refusal (tree_error.NotJson, reported, reads) =
      no_tree (Some bytes) refusal (inl (reads, reported)) (same taken failed state)
  page_unread state (Some bytes) refusal (tree_error.BadForm, reported, reads) =
      no_tree (Some bytes) refusal (inr (reads, reported)) (same taken failed state)
  page_unread state (Some bytes) refusal (tree_error.Memory, reported, reads) =
      out_of_memory (Some bytes) refusal reported (same taken failed state)

  -- the page is written
  pub page_written : (old new : S) (file : Option (List ℕ)) (tree : Tree) → HoldsTree file tree
      → Writes taken failed (Ok tt) old new (man_page (built_under (Some bin) tree))
      → ReadsBack (built_under (Some bin) tree)
      → EndsPage taken failed bin path old new file (Ok tt)
  page_written old new file tree held wrote reads =
      written file tree held wrote.ok reads wrote.failures

  -- building the command or writing the page fails
  pub page_failed : (old new : S) (file : Option (List ℕ)) (tree after : Tree) (e : Error)
      (refusal : Refusal) → HoldsTree file tree
      → Writes taken failed (Err e) old new (man_page (built_under (Some bin) tree))
      → LeavesBuilt (Err e) tree after (built_under (Some bin) tree) (taken old) (taken new)
      → Reports e refusal → EndsPage taken failed bin path old new file (Err refusal)
  page_failed old new file tree after error.Memory refusal held wrote built reported =
      out_of_memory file refusal reported
      (record { taken_same = built.1; failed_same = wrote.failures })
  page_failed old new file tree after (error.Write kind) refusal held wrote built reported =
      write_failed file tree kind refusal held reported wrote.begun wrote.failures
  page_failed old new file tree after _ refusal held wrote built reported = absurd wrote.kinds
