-- If nothing is found in a tree file but notes, its scripts are written and read back.
use Rattle.std.proofs.Common.{◌≡◌, ◌∙◌, ◌++◌, ◌&&◌, Bool, IsTrue, List, None, Option, Some, [], ◌∷◌, ap, ap₂, false, if◌then◌else◌, map, refl, subst, true, ℕ}
use Rattle.std.proofs.lemmas.Bool.{and_parts}
use Rattle.std.proofs.lemmas.List.Elements.{All-head}
use Rattle.cc_bash.proofs.PlainTable.{bash_plain_reads}
use Rattle.cc_bash.specs.Labels.{shared_label}
use Rattle.cc_command.proofs.BuiltAgain.{built_tree-again}
use Rattle.cc_command.proofs.PlainBuilt.{plain_built_under}
use Rattle.cc_command.specs.Built.{built_tree}
use Rattle.cc_command.specs.Plain.{is_plain_tree}
use Rattle.cc_command.specs.Tree.{Tree}
use Rattle.complgen_lints.specs.Notes.{are_notes, is_note as is_note_kind}
use Rattle.complgen_lints.specs.declared.warning.Warning.{Warning}
use Rattle.cc_fish.proofs.ScriptRead as fish
use Rattle.cc_shell.specs.Shells.{shell_spec}
use Rattle.cc_shell.specs.declared.shell.Shell.{Shell}
use Rattle.cc_shell.specs.declared.shell.Shell.TheVariants.{Bash, Elvish, Fish, Nushell, PowerShell, Zsh}
use Rattle.cc_tables.proofs.ElvishPlain.{elvish_plain_reads}
use Rattle.cc_tables.proofs.NushellPlain.{nushell_plain_reads}
use Rattle.cc_tables.proofs.PowershellFreeScripts.{powershell_plain_reads}
use Rattle.complgen_check.specs.Findings.{AreErrors, IsError, shown}
use Rattle.complgen_check.specs.declared.errors.finding.Level.{Level}
use Rattle.complgen_check.specs.declared.errors.finding.Level.TheVariants.{Error, Note, Warning as Warns}
use Rattle.complgen_check.specs.declared.errors.finding.Finding.{Finding}
use Rattle.complgen_check.proofs.NoWarnings.{notes_hold}
use Rattle.complgen_check.specs.Promises.{HoldPremises}
use Rattle.complgen_check.specs.TreeWarnings.{built_as, called}
use Rattle.cc_zsh.proofs.ReadsBack as zsh
use Rattle.complgen_check.specs.Checking.{AreSound, AreWarnings, Finds, IsSafeFor, IsWarning, described}
use Rattle.complgen_check.specs.Checking.{errors, is_note, only_notes}

-- ---- scripts

-- the labels of the bash script are the only ones
pub no_clash : (shell : Shell) (built : Tree) → shared_label built ≡ None
    → (shell_spec shell).clash built ≡ None
no_clash Bash built clear = clear
no_clash Elvish built clear = refl
no_clash Fish built clear = refl
no_clash PowerShell built clear = refl
no_clash Zsh built clear = refl
no_clash Nushell built clear = refl

reads_back : (built : Tree) → IsTrue (is_plain_tree built) → built_tree built ≡ built
    → shared_label built ≡ None → (shell : Shell) → (shell_spec shell).Reads built
reads_back built plain again clear Bash = bash_plain_reads built clear plain
reads_back built plain again clear Elvish = elvish_plain_reads built plain
reads_back built plain again clear Fish = fish.reads_back built plain
reads_back built plain again clear PowerShell = powershell_plain_reads built plain
reads_back built plain again clear Zsh = zsh.reads_back built plain again
reads_back built plain again clear Nushell = nushell_plain_reads built plain

-- the scripts of a tree are safe if the premises hold
pub scripts_safe : (bin : Option (List ℕ)) (tree : Tree) → HoldPremises bin tree → (shell : Shell)
    → IsSafeFor (built_as bin tree) shell
scripts_safe bin tree holds shell = record {
  unshared = no_clash shell (built_as bin tree) holds.label;
  reads = reads_back (built_as bin tree)
      (plain_built_under (Some (called bin tree)) tree holds.name holds.plain)
      (built_tree-again (Some (called bin tree)) tree) holds.label shell;
}

-- ---- findings that are notes

-- no error is a note
no_notes : (found : List Finding) → AreErrors found → IsTrue (only_notes found) → ⊥
no_notes [] are clean = let none : true ≡ false = are.some in cc
no_notes (finding ∷ more) are clean =
    let first = (and_parts (is_note finding.level) (only_notes more) clean).0 in
    let error = All-head IsError (shown finding) (map shown more) are.each in
    let is : finding.level ≡ Error = error.level in
    let noted : false ≡ true = subst (λ (level : Level). IsTrue (is_note level)) is first in
    cc

-- a kind is shown as a note exactly if it is the kind of a note
noted : (note : Bool) → is_note (if note then Note else Warns) ≡ note
noted true = refl
noted false = refl

-- the warnings are notes if the findings that show them are
warned_notes : (warnings : List Warning) (found : List Finding) → AreWarnings warnings found
    → only_notes found ≡ are_notes warnings
warned_notes [] [] are = refl
warned_notes (warning ∷ warnings) (finding ∷ found) are =
    ap₂ (λ note notes. note && notes) (ap is_note are.0.level ∙ noted (is_note_kind warning.kind))
    (warned_notes warnings found are.1)
warned_notes _ _ are = absurd are

-- if all findings are notes, so is the last part of them
last_notes : (first last : List Finding) → IsTrue (only_notes (first ++ last))
    → IsTrue (only_notes last)
last_notes [] last clean = clean
last_notes (finding ∷ more) last clean =
    last_notes more last (and_parts (is_note finding.level) (only_notes (more ++ last)) clean).1

-- one more warning, and the finding that shows it
pub one_more : (warnings : List Warning) (found : List Finding) (warning : Warning) (finding : Finding)
    → AreWarnings warnings found → IsWarning warning finding
    → AreWarnings (warnings ++ warning ∷ []) (found ++ finding ∷ [])
one_more [] [] warning finding are is = (is, tt)
one_more (first ∷ warnings) (other ∷ found) warning finding are is =
    (are.0, one_more warnings found warning finding are.1 is)
one_more _ _ warning finding are is = absurd are

-- ---- the whole

pub sound : (bin : Option (List ℕ)) (bytes : List ℕ) (found : List Finding)
    → Finds bin bytes found → IsTrue (only_notes found) → AreSound bin (Some bytes)
sound bin bytes found (errors none are) clean = absurd (no_notes found are clean)
sound bin bytes found (described tree j doubles describes spells hidden warns) clean =
    let last = last_notes doubles warns.others
    (subst (λ (found : List Finding). IsTrue (only_notes found)) warns.both clean) in
    let holds = notes_hold bin tree warns.warnings warns.premises
    (subst IsTrue (warned_notes warns.warnings warns.others warns.each) last) in
    record {
      bytes = bytes;
      tree = tree;
      is_file = refl;
      described = describes;
      premises = holds;
      scripts = scripts_safe bin tree holds;
    }
