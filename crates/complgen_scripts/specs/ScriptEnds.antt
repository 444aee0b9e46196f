-- The outcomes of a call with the name of a shell, and of writing a script for that shell.
use Rattle.std.specs.Prelude.{◌≡◌, ℕ, true, List, Option, Result, Ok, Err}
use Rattle.cc_base.specs.declared.failures.Failures.{Failures}
use Rattle.cc_shell.specs.declared.shell.Shell.{Shell}
use Rattle.cc_shell.specs.Shells.{shell_text}
use Rattle.complgen_scripts.specs.declared.refusals.Refusal.{Refusal}
use Rattle.complgen_scripts.specs.Refusals.{FindsShell}
use Rattle.complgen_scripts.specs.Scripts.{IsScript, ScriptReads, SharesLabel}
use Rattle.complgen_scripts.specs.Writing.{Finishes, Untouched}

-- the outcomes of a call with the name of a shell; a name that no shell has is reported first
pub data EndsFor {S : Type 0} (taken : S → List ℕ) (failed : S → Failures) (name : List ℕ)
    (old new : S) (EndsBy : Shell → Result (Unit {0}) Refusal → Type 0)
    : Result (Unit {0}) Refusal → Type 0 where
  unknown_shell : (refusal : Refusal) → FindsShell name (Err refusal)
      → Untouched taken failed old new → EndsFor taken failed name old new EndsBy (Err refusal)
  known_shell : (shell : Shell) (result : Result (Unit {0}) Refusal) → FindsShell name (Ok shell)
      → EndsBy shell result → EndsFor taken failed name old new EndsBy result

-- the outcomes of writing a script for the shell with this name
abbrev pub EndsScript : {S : Type 0} → (S → List ℕ) → (S → Failures) → List ℕ → List ℕ
    → Option (List ℕ) → S → S → Result (Unit {0}) Refusal → Type 0
EndsScript taken failed name bin file old new result = EndsFor taken failed name old new
    (λ shell. Finishes taken failed true (SharesLabel shell bin) (IsScript shell bin) old new file)
    result

-- a shell has this name, and its script for the tree file reads back
abbrev pub NamedScriptReads : List ℕ → List ℕ → Option (List ℕ) → Type 0
NamedScriptReads name bin file =
    (shell : Shell) × (name ≡ shell_text shell) × ScriptReads shell bin file
