-- The outcomes of writing a text for the command of a tree file, one by one.
use Rattle.std.proofs.Common.{◌≡◌, ◌++◌, refl, ℕ, Bool, true, List, Option, None, Some, Ok, Err}
use Rattle.std.specs.Prelude.{IsTrue}
use Rattle.complgen_scripts.specs.Refusals.{IsOutOfMemory}
use Rattle.complgen_scripts.specs.declared.refusals.Refusal.{Refusal}
use Rattle.cc_base.specs.declared.error.Error.{Error}
use Rattle.cc_base.specs.declared.error.Error.TheVariants as error
use Rattle.cc_base.specs.declared.failures.Failures.{Failures}
use Rattle.cc_command.specs.Tree.{Tree}
use Rattle.cc_base.specs.Partly.{partly}
use Rattle.cc_base.specs.Writes.{CountsWrite, IsMemoryOrWrite, IsWrite}
use Rattle.complgen_scripts.specs.Refusals.{Reports}
use Rattle.complgen_scripts.specs.TreeFiles.{ReportsFile, bad_form, not_json, unreadable}
use Rattle.complgen_scripts.specs.Writing.{Finishes, Untouched, no_tree, no_text, out_of_memory}
use Rattle.complgen_scripts.specs.Writing.{out_of_memory_in_text, write_failed, written}
use Rattle.complgen_tree_file.specs.TreeFile.{HoldsTree}
use Rattle.complgen_tree_file.specs.declared.error.TreeError.TheVariants.{BadForm, Memory, NotJson}

-- a sink that is as it was is untouched
pub same : {S : Type 0} (taken : S → List ℕ) (failed : S → Failures) (state : S)
    → Untouched taken failed state state
same taken failed state = record { taken_same = refl; failed_same = refl }

module _ {S : Type 0} (taken : S → List ℕ) (failed : S → Failures) (allocates : Bool)
    (Rejects : Tree → Refusal → Type 0) (IsText : Tree → List ℕ → Type 0) where
  -- no command is read
  pub ends_unread : (state : S) (file : Option (List ℕ)) (refusal : Refusal)
      → ReportsFile file refusal
      → Finishes taken failed allocates Rejects IsText state state file (Err refusal)
  ends_unread state None refusal reported =
      no_tree None refusal (unreadable refusal reported) (same taken failed state)
  ends_unread state (Some bytes) refusal (NotJson, reported, reads) =
      no_tree (Some bytes) refusal (not_json bytes refusal reads reported) (same taken failed state)
  ends_unread state (Some bytes) refusal (BadForm, reported, reads) =
      no_tree (Some bytes) refusal (bad_form bytes refusal reads reported) (same taken failed state)
  ends_unread state (Some bytes) refusal (Memory, reported, reads) =
      out_of_memory bytes refusal reported (same taken failed state)

  -- memory runs out before anything is written
  pub ends_unwritten : (state : S) (file : Option (List ℕ)) (tree : Tree) (refusal : Refusal)
      → HoldsTree file tree → IsOutOfMemory refusal
      → Finishes taken failed allocates Rejects IsText state state file (Err refusal)
  ends_unwritten state None tree refusal held out = absurd held
  ends_unwritten state (Some bytes) tree refusal held out =
      out_of_memory bytes refusal out (same taken failed state)

  -- there is no text for the command
  pub ends_rejected : (old new : S) (file : Option (List ℕ)) (tree : Tree) (refusal : Refusal)
      → HoldsTree file tree → Rejects tree refusal → Untouched taken failed old new
      → Finishes taken failed allocates Rejects IsText old new file (Err refusal)
  ends_rejected old new None tree refusal held rejected untouched = absurd held
  ends_rejected old new (Some bytes) tree refusal held rejected untouched =
      no_text bytes tree refusal held rejected untouched

  -- out of memory, with nothing written
  pub ends_without_memory : (old new : S) (file : Option (List ℕ)) (tree : Tree) (refusal : Refusal)
      → HoldsTree file tree → IsOutOfMemory refusal → Untouched taken failed old new
      → Finishes taken failed allocates Rejects IsText old new file (Err refusal)
  ends_without_memory old new None tree refusal held out untouched = absurd held
  ends_without_memory old new (Some bytes) tree refusal held out untouched =
      out_of_memory bytes refusal out untouched

  -- the text is written
  pub ends_written : (old new : S) (file : Option (List ℕ)) (tree : Tree) (text : List ℕ)
      → HoldsTree file tree → IsText tree text → taken new ≡ taken old ++ text
      → failed new ≡ failed old → Finishes taken failed allocates Rejects IsText old new file (Ok tt)
  ends_written old new None tree text held is took counts = absurd held
  ends_written old new (Some bytes) tree text held is took counts =
      written bytes text tree held is took counts

  -- writing the text fails, if the call may allocate
  pub ends_failed : (old new : S) (file : Option (List ℕ)) (tree : Tree) (text : List ℕ) (e : Error)
      (refusal : Refusal) → IsTrue allocates → HoldsTree file tree → IsText tree text
      → partly (taken new) (taken old) text ≡ true → CountsWrite {T = Unit {0}} (Err e) (failed old) (failed new)
      → IsMemoryOrWrite e → Reports e refusal
      → Finishes taken failed allocates Rejects IsText old new file (Err refusal)
  ends_failed old new None tree text e refusal asked held is begun counts kind reported = absurd held
  ends_failed old new (Some bytes) tree text error.Memory refusal asked held is begun counts kind reported =
      out_of_memory_in_text bytes text tree refusal asked held is reported begun counts
  ends_failed old new (Some bytes) tree text (error.Write why) refusal asked held is begun counts kind
      reported =
      write_failed bytes text tree why refusal held is reported begun counts
  ends_failed old new (Some bytes) tree text _ refusal asked held is begun counts kind reported = absurd kind

  -- writing the text fails, if the call does not allocate
  pub ends_cut_off : (old new : S) (file : Option (List ℕ)) (tree : Tree) (text : List ℕ) (e : Error)
      (refusal : Refusal) → HoldsTree file tree → IsText tree text
      → partly (taken new) (taken old) text ≡ true
      → CountsWrite {T = Unit {0}} (Err e) (failed old) (failed new) → IsWrite e
      → Reports e refusal → Finishes taken failed allocates Rejects IsText old new file (Err refusal)
  ends_cut_off old new None tree text e refusal held is begun counts kind reported = absurd held
  ends_cut_off old new (Some bytes) tree text (error.Write why) refusal held is begun counts kind
      reported =
      write_failed bytes text tree why refusal held is reported begun counts
  ends_cut_off old new (Some bytes) tree text _ refusal held is begun counts kind reported = absurd kind
