-- The findings of a check of a tree file, and the outcomes of the check.
use Rattle.std.specs.Prelude.{◌≡◌, ◌++◌, ℕ, Bool, true, false, if◌then◌else◌, List, [], ◌∷◌, Option, Some, None, Result, Ok, Err, codes, map, string_bytes, ⊤}
use Rattle.std.specs.List.{flat_map, list_all}
use Rattle.std.specs.declared.io.ErrorKind.{ErrorKind}
use Rattle.json.specs.Json.{Json}
use Rattle.cc_base.specs.Partly.{partly}
use Rattle.cc_base.specs.Sink.{add_failure}
use Rattle.cc_base.specs.declared.error.Error.TheVariants.{Write}
use Rattle.cc_base.specs.declared.failures.Failures.{Failures}
use Rattle.cc_command.specs.Tree.{Tree}
use Rattle.complgen_lints.specs.Places.{key_text}
use Rattle.complgen_lints.specs.Notes.{is_note as is_note_kind}
use Rattle.complgen_lints.specs.declared.place.Key.{Key}
use Rattle.complgen_lints.specs.declared.place.TreePlace.{TreePlace}
use Rattle.complgen_lints.specs.declared.warning.Kind.{Kind}
use Rattle.complgen_lints.specs.declared.warning.Warning.{Warning}
use Rattle.cc_shell.specs.Shells.{shell_spec}
use Rattle.cc_shell.specs.declared.shell.Shell.{Shell}
use Rattle.cc_base.specs.Shown.{HoldsNoControl}
use Rattle.complgen_tree_file.specs.JsonReads.{SpellsJson}
use Rattle.complgen_check.specs.FileChecks.{DescribesNone, hidden_list}
use Rattle.complgen_check.specs.Findings.{AreErrors, shown}
use Rattle.complgen_check.specs.Places.{ShownStep, index, key, path_text}
use Rattle.complgen_check.specs.declared.errors.finding.Level.{Level}
use Rattle.complgen_check.specs.declared.errors.finding.Level.TheVariants as level
use Rattle.complgen_check.specs.declared.errors.finding.Finding.{Finding}
use Rattle.complgen_tree_file.specs.TreeFile.{Describes}
use Rattle.complgen_check.specs.Promises.{HoldPremises}
use Rattle.complgen_check.specs.TreeWarnings.{ReportPremises, built_as}
use Rattle.complgen_scripts.specs.Refusals.{IsOutOfMemory, IsRefusal}
use Rattle.complgen_scripts.specs.declared.refusals.Refusal.{Refusal}
use Rattle.complgen_scripts.specs.Refusals.{error_line, unreadable_line}
use Rattle.complgen_scripts.specs.Writing.{Untouched}
use Rattle.complgen_check.specs.Report.{report_text}
use Rattle.complgen_check.specs.declared.report.Report.{Report}

-- ---- what is shown of a warning

-- the level of a warning of this kind
abbrev pub level_of : Kind → Level
level_of kind = if is_note_kind kind then level.Note else level.Warning

-- the steps from the whole file to the command at a path
abbrev pub command_steps : List ℕ → List ShownStep
command_steps children =
    flat_map (λ child. key (codes "subcommands") ∷ index child ∷ []) children

abbrev pub argument_steps : Option ℕ → List ShownStep
argument_steps None = []
argument_steps (Some argument) = key (codes "args") ∷ index argument ∷ []

abbrev pub key_steps : Option Key → List ShownStep
key_steps None = []
key_steps (Some which) = key (key_text which) ∷ []

abbrev pub item_steps : Option ℕ → List ShownStep
item_steps None = []
item_steps (Some item) = index item ∷ []

-- the steps to a place in a tree: to the command, to its argument, to a key there and to an item
abbrev pub place_steps : TreePlace → List ShownStep
place_steps place = ((command_steps place.command ++ argument_steps place.argument)
    ++ key_steps place.key) ++ item_steps place.item

-- A finding shows a warning: with its level and its place, and with a text on one line.
pub record IsWarning (warning : Warning) (finding : Finding) : Type 0 where
  pub level : finding.level ≡ level_of warning.kind
  pub path : string_bytes finding.path ≡ path_text (place_steps warning.place)
  pub line : HoldsNoControl (string_bytes finding.text)

-- findings show these warnings, one each, in their order
abbrev pub AreWarnings : List Warning → List Finding → Type 0
AreWarnings [] [] = ⊤
AreWarnings (warning ∷ warnings) (finding ∷ found) =
    IsWarning warning finding × AreWarnings warnings found
AreWarnings _ _ = ⊥

-- ---- what is found

-- After some findings stand those that show warnings about a tree. These say which premises of the
-- promises about scripts do not hold, and where. Among them is nothing about a premise that holds.
pub record Warns (bin : Option (List ℕ)) (tree : Tree) (before found : List Finding) : Type 0 where
  pub warnings : List Warning
  pub others : List Finding
  pub premises : ReportPremises bin tree warnings
  pub each : AreWarnings warnings others
  pub both : found ≡ before ++ others

-- The findings of a check of the bytes of a tree file.
pub data Finds (bin : Option (List ℕ)) (bytes : List ℕ) (found : List Finding) : Type 0 where
  -- errors, at least one: the bytes describe no command
  errors : DescribesNone bytes → AreErrors found → Finds bin bytes found
  -- the bytes describe a command: a warning for each duplicate key, then the warnings and notes
  -- about the command
  described : (tree : Tree) (j : Json) (doubles : List Finding) → Describes bytes (Some tree)
      → SpellsJson bytes j → map shown doubles ≡ hidden_list j → Warns bin tree doubles found
      → Finds bin bytes found

-- whether a finding is neither an error nor a warning
abbrev pub is_note : Level → Bool
is_note level.Note = true
is_note _ = false

-- whether nothing is found but notes
abbrev pub only_notes : List Finding → Bool
only_notes found = list_all (λ finding. is_note finding.level) found

-- ---- the outcomes of a check

-- The outcomes of a check of a tree file. Its sink was `old` before and is `new` after.
pub data EndsCheck {S : Type 0} (taken : S → List ℕ) (failed : S → Failures)
    (bin : Option (List ℕ)) (report : Report) (old new : S)
    : Option (List ℕ) → Result Bool Refusal → Type 0 where
  -- the file can't be read, and nothing is printed
  unreadable : (refusal : Refusal) → IsRefusal unreadable_line refusal
      → Untouched taken failed old new → EndsCheck taken failed bin report old new None (Err refusal)
  -- out of memory, and nothing is printed
  out_of_memory : (bytes : List ℕ) (refusal : Refusal) → IsOutOfMemory refusal
      → Untouched taken failed old new
      → EndsCheck taken failed bin report old new (Some bytes) (Err refusal)
  -- out of memory when the findings are printed; a beginning of their text is printed
  out_of_memory_in_text : (bytes : List ℕ) (found : List Finding) (refusal : Refusal)
      → Finds bin bytes found → IsOutOfMemory refusal
      → partly (taken new) (taken old) (report_text report bytes found) ≡ true
      → failed new ≡ failed old
      → EndsCheck taken failed bin report old new (Some bytes) (Err refusal)
  -- a write failed, which is counted with its kind; a beginning of the text is printed
  write_failed : (bytes : List ℕ) (found : List Finding) (kind : ErrorKind) (refusal : Refusal)
      → Finds bin bytes found → IsRefusal (error_line (Write kind)) refusal
      → partly (taken new) (taken old) (report_text report bytes found) ≡ true
      → failed new ≡ add_failure kind (failed old)
      → EndsCheck taken failed bin report old new (Some bytes) (Err refusal)
  -- each finding is printed, and the result is whether all are notes
  printed : (bytes : List ℕ) (found : List Finding) → Finds bin bytes found
      → taken new ≡ taken old ++ report_text report bytes found → failed new ≡ failed old
      → EndsCheck taken failed bin report old new (Some bytes) (Ok (only_notes found))

-- ---- what holds if nothing is found but notes

-- No two commands of the built tree share a label that the script for this shell needs. So writing
-- it fails only if memory runs out or a write fails. The script reads back.
pub record IsSafeFor (built : Tree) (shell : Shell) : Type 0 where
  pub unshared : (shell_spec shell).clash built ≡ None
  pub reads : (shell_spec shell).Reads built

-- The bytes describe a command for which each premise of the promises about scripts holds. So its
-- script for each shell is safe.
pub record AreSound (bin : Option (List ℕ)) (file : Option (List ℕ)) : Type 0 where
  pub bytes : List ℕ
  pub tree : Tree
  pub is_file : file ≡ Some bytes
  pub described : Describes bytes (Some tree)
  pub premises : HoldPremises bin tree
  pub scripts : (shell : Shell) → IsSafeFor (built_as bin tree) shell
