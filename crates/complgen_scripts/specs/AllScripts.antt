-- The outcomes of writing the scripts of all shells, and what that prints.
use Rattle.std.specs.Prelude.{◌≡◌, ◌⊎◌, ◌++◌, ℕ, List, [], ◌∷◌, true, IsTrue, None, Option, Some, Result, Ok, Err, codes}
use Rattle.std.specs.List.{flat_map}
use Rattle.std.specs.Path.{path_join}
use Rattle.std.specs.declared.io.ErrorKind.{ErrorKind}
use Rattle.cc_base.specs.Partly.{partly}
use Rattle.cc_base.specs.Sink.{add_failure}
use Rattle.cc_base.specs.declared.failures.Failures.{Failures}
use Rattle.cc_base.specs.declared.error.Error.{Error}
use Rattle.cc_base.specs.declared.error.Error.TheVariants.{LabelClash, Write}
use Rattle.cc_command.specs.Built.{built_under}
use Rattle.cc_command.specs.Plain.{is_plain_tree}
use Rattle.cc_base.specs.PlainName.{is_plain_name}
use Rattle.cc_command.specs.Tree.{Tree}
use Rattle.cc_shell.specs.Shells.{all_shells, shell_spec}
use Rattle.cc_shell.specs.declared.shell.Shell.{Shell}
use Rattle.cc_shell.specs.declared.shell.Shell.TheVariants.{Bash, Elvish, Fish, Nushell, PowerShell, Zsh}
use Rattle.cc_base.specs.Shown.{on_one_line}
use Rattle.complgen_tree_file.specs.TreeFile.{HoldsTree}
use Rattle.complgen_scripts.specs.Refusals.{IsOutOfMemory, IsRefusal}
use Rattle.complgen_scripts.specs.declared.refusals.Refusal.{Refusal}
use Rattle.complgen_scripts.specs.Refusals.{IsMade, Reports, as_line, error_line, shown_line}
use Rattle.complgen_scripts.specs.Scripts.{SharesLabel}
use Rattle.complgen_scripts.specs.TreeFiles.{HoldsNoTreeAt}
use Rattle.complgen_scripts.specs.Writing.{Untouched}

-- the path of the script for a shell as a line, with `?` for each control character
abbrev pub path_line : List ℕ → List ℕ → Shell → List ℕ
path_line bin folder shell = as_line (path_join folder ((shell_spec shell).file bin))

-- the paths of the scripts for some shells, one on each line
abbrev pub path_lines : List ℕ → List ℕ → List Shell → List ℕ
path_lines bin folder shells = flat_map (path_line bin folder) shells

-- the line for a file in this folder that can't be made or written
abbrev pub folder_line : List ℕ → List ℕ
folder_line folder = on_one_line folder ++ codes ": write failed\n"

-- what is printed for an error of writing a script to a file in this folder
abbrev pub ReportsFile : List ℕ → Error → Refusal → Type 0
ReportsFile folder (Write kind) refusal = IsMade (folder_line folder) refusal
ReportsFile folder error refusal = Reports error refusal

-- the outcomes of printing a line: it is printed; or a beginning of it is, and memory runs out or
-- a write fails, which is counted with its kind
abbrev pub PrintsLine : {S : Type 0} → (S → List ℕ) → (S → Failures) → List ℕ → S → S
    → Result (Unit {0}) Refusal → Type 0
PrintsLine taken failed line old new (Ok tt) =
    (taken new ≡ taken old ++ line) × (failed new ≡ failed old)
PrintsLine taken failed line old new (Err refusal) =
    (partly (taken new) (taken old) line ≡ true)
    × ((IsOutOfMemory refusal × (failed new ≡ failed old)) ⊎ ((kind : ErrorKind)
    × IsRefusal (error_line (Write kind)) refusal × (failed new ≡ add_failure kind (failed old))))

-- The outcomes of writing scripts to their files, and lines to the output. If that fails, a
-- beginning of the lines is printed.
pub data EndsFiles {S : Type 0} (taken : S → List ℕ) (failed : S → Failures)
    (folder lines : List ℕ) (old new : S) : Result (Unit {0}) Refusal → Type 0 where
  -- out of memory
  out_of_memory : (refusal : Refusal) → IsOutOfMemory refusal
      → partly (taken new) (taken old) lines ≡ true → failed new ≡ failed old
      → EndsFiles taken failed folder lines old new (Err refusal)
  -- a file can't be made or written
  file_failed : (refusal : Refusal) → IsMade (folder_line folder) refusal
      → partly (taken new) (taken old) lines ≡ true → failed new ≡ failed old
      → EndsFiles taken failed folder lines old new (Err refusal)
  -- a write to the output failed, which is counted with its kind
  write_failed : (kind : ErrorKind) (refusal : Refusal)
      → IsRefusal (error_line (Write kind)) refusal
      → partly (taken new) (taken old) lines ≡ true → failed new ≡ add_failure kind (failed old)
      → EndsFiles taken failed folder lines old new (Err refusal)
  -- all are written
  written : taken new ≡ taken old ++ lines → failed new ≡ failed old
      → EndsFiles taken failed folder lines old new (Ok tt)

-- the same for one script; if two nodes share a label, that is reported, and nothing is printed
abbrev pub EndsFile : {S : Type 0} → (S → List ℕ) → (S → Failures) → Option (List ℕ) → List ℕ
    → List ℕ → S → S → Result (Unit {0}) Refusal → Type 0
EndsFile taken failed None folder line old new result =
    EndsFiles taken failed folder line old new result
EndsFile taken failed (Some label) folder line old new (Ok tt) = ⊥
EndsFile taken failed (Some label) folder line old new (Err refusal) =
    IsMade (shown_line (LabelClash label)) refusal × Untouched taken failed old new

-- The outcomes of writing all scripts for the tree file at a path.
pub data EndsScripts {S : Type 0} (taken : S → List ℕ) (failed : S → Failures)
    (bin folder path : List ℕ) (old new : S)
    : Option (List ℕ) → Result (Unit {0}) Refusal → Type 0 where
  -- the file holds no tree, and nothing is printed
  no_tree : (file : Option (List ℕ)) (refusal : Refusal) → HoldsNoTreeAt path file refusal
      → Untouched taken failed old new
      → EndsScripts taken failed bin folder path old new file (Err refusal)
  -- out of memory, and nothing is printed
  no_memory : (file : Option (List ℕ)) (refusal : Refusal) → IsOutOfMemory refusal
      → Untouched taken failed old new
      → EndsScripts taken failed bin folder path old new file (Err refusal)
  -- two commands share a label of the bash script, and nothing is printed
  shared_label : (file : Option (List ℕ)) (tree : Tree) (refusal : Refusal) → HoldsTree file tree
      → SharesLabel Bash bin tree refusal → Untouched taken failed old new
      → EndsScripts taken failed bin folder path old new file (Err refusal)
  -- no two commands share a label of the bash script, and the scripts of the tree that the file
  -- describes are written to their files
  files : (file : Option (List ℕ)) (tree : Tree) (result : Result (Unit {0}) Refusal)
      → HoldsTree file tree → (shell_spec Bash).clash (built_under (Some bin) tree) ≡ None
      → EndsFiles taken failed folder (path_lines bin folder all_shells) old new result
      → EndsScripts taken failed bin folder path old new file result

-- the shells other than bash
abbrev pub other_shells : List Shell
other_shells = Elvish ∷ Fish ∷ PowerShell ∷ Zsh ∷ Nushell ∷ []

-- no script of this shell has labels that two nodes could share
abbrev pub HasNoLabels : Shell → Type 0
HasNoLabels shell = (tree : Tree) → (shell_spec shell).clash tree ≡ None

-- the script of a built tree reads back if the tree and the bin name are plain
abbrev pub ReadsBack : List ℕ → Tree → Shell → Type 0
ReadsBack bin tree shell = IsTrue (is_plain_tree tree) → IsTrue (is_plain_name bin)
    → (shell_spec shell).Reads tree
