-- The outcomes of writing a man page.
use Rattle.std.specs.Prelude.{◌≡◌, ◌++◌, ℕ, true, List, Option, Some, Result, Ok, Err}
use Rattle.std.specs.declared.io.ErrorKind.{ErrorKind}
use Rattle.cc_base.specs.Partly.{partly}
use Rattle.cc_base.specs.Sink.{add_failure}
use Rattle.cc_base.specs.declared.error.Error.TheVariants.{Write}
use Rattle.cc_base.specs.declared.failures.Failures.{Failures}
use Rattle.cc_command.specs.Built.{built_under}
use Rattle.cc_command.specs.Tree.{Tree}
use Rattle.complgen_scripts.specs.Refusals.{IsOutOfMemory, IsRefusal, error_line}
use Rattle.complgen_scripts.specs.TreeFiles.{HoldsNoTreeAt}
use Rattle.complgen_scripts.specs.Writing.{Untouched}
use Rattle.complgen_scripts.specs.declared.refusals.Refusal.{Refusal}
use Rattle.complgen_man.specs.Page.{man_page}
use Rattle.complgen_man.specs.Shown.{ReadsBack}
use Rattle.complgen_tree_file.specs.TreeFile.{HoldsTree}

-- The outcomes of writing the man page for the tree file at a path, under this bin name.
pub data EndsPage {S : Type 0} (taken : S → List ℕ) (failed : S → Failures) (bin path : List ℕ)
    (old new : S) : Option (List ℕ) → Result (Unit {0}) Refusal → Type 0 where
  -- the file holds no tree, and nothing is written
  no_tree : (file : Option (List ℕ)) (refusal : Refusal) → HoldsNoTreeAt path file refusal
      → Untouched taken failed old new → EndsPage taken failed bin path old new file (Err refusal)
  -- out of memory, and nothing is written
  out_of_memory : (file : Option (List ℕ)) (refusal : Refusal) → IsOutOfMemory refusal
      → Untouched taken failed old new → EndsPage taken failed bin path old new file (Err refusal)
  -- a write failed, which is counted with its kind; a beginning of the page is written
  write_failed : (file : Option (List ℕ)) (tree : Tree) (kind : ErrorKind) (refusal : Refusal)
      → HoldsTree file tree → IsRefusal (error_line (Write kind)) refusal
      → partly (taken new) (taken old) (man_page (built_under (Some bin) tree)) ≡ true
      → failed new ≡ add_failure kind (failed old)
      → EndsPage taken failed bin path old new file (Err refusal)
  -- the page of the command in the file is written, and a reader of roff reads it back
  written : (file : Option (List ℕ)) (tree : Tree) → HoldsTree file tree
      → taken new ≡ taken old ++ man_page (built_under (Some bin) tree)
      → ReadsBack (built_under (Some bin) tree) → failed new ≡ failed old
      → EndsPage taken failed bin path old new file (Ok tt)
