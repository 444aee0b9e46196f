-- The registration for the command of a tree file, which makes a shell ask a program for
-- candidates.
use Rattle.std.specs.Prelude.{◌≡◌, ℕ, true, List, Option, Some, None, Result, Err, codes, find, map, option_map}
use Rattle.cc_env.specs.declared.builtin.Builtin.{Builtin}
use Rattle.cc_env.specs.Builtins.{all_builtins, builtin_spec}
use Rattle.cc_base.specs.declared.error.Error.TheVariants.{UnknownShell}
use Rattle.cc_base.specs.declared.failures.Failures.{Failures}
use Rattle.cc_env.specs.Wanted.{unknown_shell}
use Rattle.cc_shell.specs.declared.shell.Shell.{Shell}
use Rattle.cc_shell.specs.Shells.{shell_text}
use Rattle.cc_command.specs.Tree.{Tree}
use Rattle.complgen_scripts.specs.Refusals.{IsRefusal}
use Rattle.complgen_scripts.specs.declared.refusals.Refusal.{Refusal}
use Rattle.complgen_scripts.specs.Refusals.{error_line}
use Rattle.complgen_scripts.specs.ScriptEnds.{EndsFor}
use Rattle.complgen_scripts.specs.Writing.{Finishes, Untouched}

-- the environment variable that makes a program reply to a shell
abbrev pub variable : List ℕ
variable = codes "COMPLETE"

-- the adapter for a shell: the first that has the shell's text as a name
abbrev pub adapter_for : Shell → Option Builtin
adapter_for shell = find (λ adapter. (builtin_spec adapter).named (shell_text shell)) all_builtins

-- a registration for the name of a command and its bin name, by which it is called and completed
abbrev pub registration_by : Builtin → List ℕ → List ℕ → List ℕ
registration_by adapter name bin = (builtin_spec adapter).registration variable name bin bin

-- what that registration reads back as
abbrev pub RegistrationReadsBy : Builtin → List ℕ → List ℕ → Type 0
RegistrationReadsBy adapter name bin = (builtin_spec adapter).Reads variable name bin bin

-- the registration for a shell, if it has an adapter
abbrev pub registration_for : Shell → Option (List ℕ → List ℕ → List ℕ)
registration_for shell = option_map registration_by (adapter_for shell)

-- what the registration of an adapter reads back as; nothing if there is no adapter
abbrev pub AdapterReads : Option Builtin → List ℕ → List ℕ → Type 0
AdapterReads None name bin = ⊥
AdapterReads (Some adapter) name bin = RegistrationReadsBy adapter name bin

abbrev pub RegistrationReads : Shell → List ℕ → List ℕ → Type 0
RegistrationReads shell = AdapterReads (adapter_for shell)

-- the message for a shell without a registration
abbrev pub no_registration_text : Shell → List ℕ
no_registration_text shell =
    unknown_shell (map (λ adapter. (builtin_spec adapter).name) all_builtins) (shell_text shell)

-- the text is the registration of a command, and it reads back
pub record IsRegistration (registration : List ℕ → List ℕ → List ℕ)
    (Reads : List ℕ → List ℕ → Type 0) (bin : List ℕ) (tree : Tree) (text : List ℕ) : Type 0 where
  pub is : text ≡ registration tree.node.name bin
  pub read_back : Reads tree.node.name bin

-- The outcomes of writing a registration, which a shell may have or not. If it has none, the
-- message is reported before the file is parsed.
pub data Registers {S : Type 0} (taken : S → List ℕ) (failed : S → Failures)
    (Reads : List ℕ → List ℕ → Type 0) (message bin : List ℕ) (file : Option (List ℕ)) (old new : S)
    : Option (List ℕ → List ℕ → List ℕ) → Result (Unit {0}) Refusal → Type 0 where
  no_registration : (refusal : Refusal) → IsRefusal (error_line (UnknownShell message)) refusal
      → Untouched taken failed old new
      → Registers taken failed Reads message bin file old new None (Err refusal)
  some_registration : (registration : List ℕ → List ℕ → List ℕ) (result : Result (Unit {0}) Refusal)
      → Finishes taken failed true (λ tree refusal. ⊥) (IsRegistration registration Reads bin) old
      new file result
      → Registers taken failed Reads message bin file old new (Some registration) result

-- the outcomes of writing a registration for the shell with this name
abbrev pub EndsRegistration : {S : Type 0} → (S → List ℕ) → (S → Failures) → List ℕ → List ℕ
    → Option (List ℕ) → S → S → Result (Unit {0}) Refusal → Type 0
EndsRegistration taken failed name bin file old new result = EndsFor taken failed name old new
    (λ shell. Registers taken failed (RegistrationReads shell) (no_registration_text shell) bin file
    old new (registration_for shell)) result
