-- The outcomes of writing scripts to files.
use Rattle.std.proofs.Common.{◌≡◌, ◌∙◌, ◌++◌, true, inl, inr, refl, subst, sym, ap, ℕ, List, []}
use Rattle.std.proofs.Common.{Option, None, Some, Result, Ok, Err}
use Rattle.std.specs.Bool.{IsTrue}
use Rattle.std.specs.List.{AllByRecursion}
use Rattle.std.proofs.lemmas.List.{append_assoc}
use Rattle.cc_base.specs.Partly.{partly, partly_self}
use Rattle.cc_base.specs.Sink.{add_failure}
use Rattle.cc_base.specs.declared.error.Error.{Error}
use Rattle.cc_base.specs.declared.error.Error.TheVariants.{Memory, Write}
use Rattle.cc_base.specs.declared.failures.Failures.{Failures}
use Rattle.cc_command.specs.Built.{built_under}
use Rattle.cc_command.specs.Tree.{Tree}
use Rattle.cc_base.proofs.Stopped.{part_first}
use Rattle.cc_base.proofs.WrittenTexts.{part_later}
use Rattle.cc_shell.specs.Files.{EndsFile as EndsGenerated}
use Rattle.cc_command.proofs.PlainBuilt.{plain_built_under}
use Rattle.cc_command.specs.Plain.{is_plain_tree}
use Rattle.cc_base.specs.PlainName.{is_plain_name}
use Rattle.cc_shell.specs.Shells.{shell_spec}
use Rattle.cc_shell.specs.declared.shell.Shell.{Shell}
use Rattle.cc_shell.specs.declared.shell.Shell.TheVariants.{Bash, Elvish, Fish, Nushell, PowerShell, Zsh}
use Rattle.complgen_tree_file.specs.TreeFile.{HoldsTree}
use Rattle.complgen_tree_file.specs.declared.error.TreeError.TheVariants as tree_error
use Rattle.complgen_scripts.specs.Refusals.{IsOutOfMemory}
use Rattle.complgen_scripts.specs.declared.refusals.Refusal.{Refusal}
use Rattle.complgen_scripts.specs.TreeFiles.{ReportsFileAt}
use Rattle.complgen_scripts.specs.Scripts.{ScriptReads}
use Rattle.complgen_scripts.specs.Writing.{Untouched}
use Rattle.complgen_scripts.specs.AllScripts.{EndsFile, EndsFiles, EndsScripts, PrintsLine, ReadsBack}
use Rattle.complgen_scripts.specs.AllScripts.{ReportsFile}
use Rattle.complgen_scripts.specs.AllScripts.{file_failed, other_shells, out_of_memory, path_line}
use Rattle.complgen_scripts.specs.AllScripts.{path_lines, write_failed, written}
use Rattle.complgen_scripts.specs.AllScripts.{files, no_memory, no_tree, shared_label}

module _ {S : Type 0} (taken : S → List ℕ) (failed : S → Failures) (folder : List ℕ) where
  same : (state : S) → Untouched taken failed state state
  same state = record { taken_same = refl; failed_same = refl }

  -- ---- one script

  pub file_without_memory : (clash : Option (List ℕ)) (line : List ℕ) (state : S) (refusal : Refusal)
      → IsOutOfMemory refusal → EndsFile taken failed clash folder line state state (Err refusal)
  file_without_memory None line state refusal out =
      out_of_memory refusal out (partly_self (taken state) line) refl
  file_without_memory (Some label) line state refusal out = (inl out, same state)

  pub file_printed : {T : Type 0} (path : T) (clash : Option (List ℕ)) (line : List ℕ) (old new : S)
      (result : Result (Unit {0}) Refusal) → EndsGenerated (Ok path) clash
      → PrintsLine taken failed line old new result
      → EndsFile taken failed clash folder line old new result
  file_printed path None line old new (Ok tt) ends printed = written printed.0 printed.1
  file_printed path None line old new (Err refusal) ends (begun, inl (out, same_then)) =
      out_of_memory refusal out begun same_then
  file_printed path None line old new (Err refusal) ends (begun, inr (kind, is, counted)) =
      write_failed kind refusal is begun counted
  file_printed path (Some label) line old new result ends printed = absurd ends

  pub file_refused : (T : Type 0) (clash : Option (List ℕ)) (line : List ℕ) (state : S)
      (error : Error) (refusal : Refusal) → EndsGenerated {T = T} (Err error) clash
      → ReportsFile folder error refusal
      → EndsFile taken failed clash folder line state state (Err refusal)
  file_refused T None line state Memory refusal ends reported =
      out_of_memory refusal reported (partly_self (taken state) line) refl
  file_refused T None line state (Write kind) refusal ends reported =
      file_failed refusal reported (partly_self (taken state) line) refl
  file_refused T None line state error refusal ends reported = absurd ends
  file_refused T (Some label) line state error refusal (inl is) reported =
      (subst (λ (e : Error). ReportsFile folder e refusal) is reported, same state)
  file_refused T (Some label) line state error refusal (inr is) reported =
      (inl (subst (λ (e : Error). ReportsFile folder e refusal) is reported), same state)

  -- ---- several scripts

  pub none_shared : (clash : Option (List ℕ)) (line : List ℕ) (old new : S)
      (result : Result (Unit {0}) Refusal) → clash ≡ None
      → EndsFile taken failed clash folder line old new result
      → EndsFiles taken failed folder line old new result
  none_shared clash line old new result is ends =
      subst (λ (c : Option (List ℕ)). EndsFile taken failed c folder line old new result) is ends

  pub files_failed : (line lines : List ℕ) (old mid new : S) (refusal : Refusal)
      → (partly (taken new) (taken mid) line ≡ true → partly (taken new) (taken old) lines ≡ true)
      → EndsFiles taken failed folder line mid new (Err refusal) → failed mid ≡ failed old
      → EndsFiles taken failed folder lines old new (Err refusal)
  files_failed line lines old mid new refusal more (out_of_memory r out begun same_then) before =
      out_of_memory refusal out (more begun) (same_then ∙ before)
  files_failed line lines old mid new refusal more (file_failed r made begun same_then) before =
      file_failed refusal made (more begun) (same_then ∙ before)
  files_failed line lines old mid new refusal more (write_failed kind r is begun counted) before =
      write_failed kind refusal is (more begun) (counted ∙ ap (add_failure kind) before)

  pub line_written : (line : List ℕ) (old new : S)
      → EndsFiles taken failed folder line old new (Ok tt)
      → (taken new ≡ taken old ++ line) × (failed new ≡ failed old)
  line_written line old new (written took same_then) = (took, same_then)

-- ---- all scripts

module _ {S : Type 0} (taken : S → List ℕ) (failed : S → Failures) (bin folder path : List ℕ) where
  pub scripts_unread : (state : S) (file : Option (List ℕ)) (refusal : Refusal)
      → ReportsFileAt path file refusal
      → EndsScripts taken failed bin folder path state state file (Err refusal)
  scripts_unread state None refusal reported =
      no_tree None refusal reported (same taken failed folder state)
  scripts_unread state (Some bytes) refusal (tree_error.NotJson, reported, reads) =
      no_tree (Some bytes) refusal (inl (reads, reported)) (same taken failed folder state)
  scripts_unread state (Some bytes) refusal (tree_error.BadForm, reported, reads) =
      no_tree (Some bytes) refusal (inr (reads, reported)) (same taken failed folder state)
  scripts_unread state (Some bytes) refusal (tree_error.Memory, reported, reads) =
      no_memory (Some bytes) refusal reported (same taken failed folder state)

  -- the script of bash is not written
  pub first_failed : (clash : Option (List ℕ)) (old new : S) (file : Option (List ℕ)) (tree : Tree)
      (refusal : Refusal) → (shell_spec Bash).clash (built_under (Some bin) tree) ≡ clash
      → HoldsTree file tree
      → EndsFile taken failed clash folder (path_line bin folder Bash) old new (Err refusal)
      → EndsScripts taken failed bin folder path old new file (Err refusal)
  first_failed None old new file tree refusal is held ends = files file tree (Err refusal) held is
      (files_failed taken failed folder (path_line bin folder Bash) _ old old new refusal
      (λ begun. part_first (taken old) (taken new) _ _ begun) ends refl)
  first_failed (Some label) old new file tree refusal is held (made, untouched) =
      shared_label file tree refusal held
      (record { label = label; shared = is; reported = made }) untouched

  -- the script of bash is written, and then the others
  pub others_follow : (clash : Option (List ℕ)) (old mid new : S) (file : Option (List ℕ)) (tree : Tree)
      (result : Result (Unit {0}) Refusal) → (shell_spec Bash).clash (built_under (Some bin) tree) ≡ clash
      → HoldsTree file tree
      → EndsFile taken failed clash folder (path_line bin folder Bash) old mid (Ok tt)
      → EndsFiles taken failed folder (path_lines bin folder other_shells) mid new result
      → EndsScripts taken failed bin folder path old new file result
  others_follow None old mid new file tree (Err refusal) is held (written took before) ends =
      files file tree (Err refusal) held is
      (files_failed taken failed folder (path_lines bin folder other_shells) _ old mid new refusal
      (λ begun. part_later (taken old) (taken mid) (taken new) _ _ took begun) ends before)
  others_follow None old mid new file tree (Ok tt) is held (written took before) (written more then) =
      files file tree (Ok tt) held is (written
      (more ∙ ap (λ t. t ++ path_lines bin folder other_shells) took
      ∙ append_assoc (taken old) (path_line bin folder Bash) (path_lines bin folder other_shells))
      (then ∙ before))
  others_follow (Some label) old mid new file tree result is held ends others = absurd ends

-- the script of each shell reads back
module _ (bin : List ℕ) (file : Option (List ℕ)) (tree mid : Tree) (held : HoldsTree file tree)
    (is : mid ≡ built_under (Some bin) tree) where
  other_reads : (shell : Shell) → ReadsBack bin mid shell → ScriptReads shell bin file
  other_reads shell reads = record {
    tree = tree;
    held = held;
    reads = λ plain name. subst (λ (t : Tree). (shell_spec shell).Reads t) is
        (reads (subst (λ (t : Tree). IsTrue (is_plain_tree t)) (sym is)
        (plain_built_under (Some bin) tree name plain)) name);
  }

  pub all_read : (IsTrue (is_plain_tree tree) → IsTrue (is_plain_name bin)
      → (shell_spec Bash).Reads (built_under (Some bin) tree))
      → AllByRecursion (ReadsBack bin mid) other_shells → (shell : Shell) → ScriptReads shell bin file
  all_read first others Bash = record { tree = tree; held = held; reads = first }
  all_read first others Elvish = other_reads Elvish others.0
  all_read first others Fish = other_reads Fish others.1.0
  all_read first others PowerShell = other_reads PowerShell others.1.1.0
  all_read first others Zsh = other_reads Zsh others.1.1.1.0
  all_read first others Nushell = other_reads Nushell others.1.1.1.1.0
