-- The outcomes of writing a text for the command of a tree file.
use Rattle.std.specs.Prelude.{◌≡◌, ◌++◌, ℕ, Bool, true, IsTrue, List, Option, Some, Result, Ok, Err}
use Rattle.std.specs.declared.io.ErrorKind.{ErrorKind}
use Rattle.cc_base.specs.declared.error.Error.TheVariants.{Write}
use Rattle.cc_base.specs.declared.failures.Failures.{Failures}
use Rattle.cc_base.specs.Partly.{partly}
use Rattle.cc_base.specs.Sink.{add_failure}
use Rattle.cc_command.specs.Tree.{Tree}
use Rattle.complgen_scripts.specs.Refusals.{IsOutOfMemory, IsRefusal}
use Rattle.complgen_scripts.specs.declared.refusals.Refusal.{Refusal}
use Rattle.complgen_scripts.specs.Refusals.{error_line}
use Rattle.complgen_scripts.specs.TreeFiles.{HoldsNoTree}
use Rattle.complgen_tree_file.specs.TreeFile.{Describes}

-- the sink took nothing more, and no write failed
pub record Untouched {S : Type 0} (taken : S → List ℕ) (failed : S → Failures) (old new : S)
    : Type 0 where
  pub taken_same : taken new ≡ taken old
  pub failed_same : failed new ≡ failed old

-- The outcomes of writing a text. `IsText` relates a command to the text for it. `Rejects` relates
-- a command without a text to the report of it. `allocates` is true if the call may allocate after
-- it starts to write the text. The command is the one that the file describes. The call starts to
-- write only if there is a text for it.
pub data Finishes {S : Type 0} (taken : S → List ℕ) (failed : S → Failures) (allocates : Bool)
    (Rejects : Tree → Refusal → Type 0) (IsText : Tree → List ℕ → Type 0) (old new : S)
    : Option (List ℕ) → Result (Unit {0}) Refusal → Type 0 where
  -- the file holds no tree, and nothing is written
  no_tree : (file : Option (List ℕ)) (refusal : Refusal) → HoldsNoTree file refusal
      → Untouched taken failed old new
      → Finishes taken failed allocates Rejects IsText old new file (Err refusal)
  -- there is no text for the command, and nothing is written
  no_text : (bytes : List ℕ) (tree : Tree) (refusal : Refusal) → Describes bytes (Some tree)
      → Rejects tree refusal → Untouched taken failed old new
      → Finishes taken failed allocates Rejects IsText old new (Some bytes) (Err refusal)
  -- out of memory, and nothing is written
  out_of_memory : (bytes : List ℕ) (refusal : Refusal) → IsOutOfMemory refusal
      → Untouched taken failed old new
      → Finishes taken failed allocates Rejects IsText old new (Some bytes) (Err refusal)
  -- a write failed, which is counted with its kind; a beginning of the text is written
  write_failed : (bytes text : List ℕ) (tree : Tree) (kind : ErrorKind) (refusal : Refusal)
      → Describes bytes (Some tree) → IsText tree text
      → IsRefusal (error_line (Write kind)) refusal
      → partly (taken new) (taken old) text ≡ true → failed new ≡ add_failure kind (failed old)
      → Finishes taken failed allocates Rejects IsText old new (Some bytes) (Err refusal)
  -- out of memory after the text may have been started; a beginning of the text is written
  out_of_memory_in_text : (bytes text : List ℕ) (tree : Tree) (refusal : Refusal)
      → IsTrue allocates → Describes bytes (Some tree) → IsText tree text → IsOutOfMemory refusal
      → partly (taken new) (taken old) text ≡ true → failed new ≡ failed old
      → Finishes taken failed allocates Rejects IsText old new (Some bytes) (Err refusal)
  -- the text is written
  written : (bytes text : List ℕ) (tree : Tree) → Describes bytes (Some tree) → IsText tree text
      → taken new ≡ taken old ++ text → failed new ≡ failed old
      → Finishes taken failed allocates Rejects IsText old new (Some bytes) (Ok tt)
