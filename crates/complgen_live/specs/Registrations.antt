-- The registration of programs, with which a shell runs this program for their candidates.
use Rattle.std.specs.Prelude.{◌≡◌, ℕ, IsTrue, List, Result, Ok, IfErr, IfOk, OnOk}
use Rattle.std.specs.List.{AllByRecursion}
use Rattle.cc_env.specs.SafeShells.{SafeReads, safe_registration}
use Rattle.cc_env.specs.declared.safe_shell.SafeShell.{SafeShell}
use Rattle.cc_base.specs.PlainName.{is_plain_name}
use Rattle.cc_base.specs.Writes.{Writes}
use Rattle.cc_base.specs.declared.error.Error.{Error}
use Rattle.cc_base.specs.declared.failures.Failures.{Failures}
use Rattle.cc_env.specs.Wanted.{Wanted, IsUnknownShell, known, nothing, unknown}
use Rattle.complgen_live.specs.KnownNames.{own_name}
use Rattle.complgen_live.specs.Prepared.{shell_names, variable}

-- each of the names is plain
abbrev pub ArePlain : List (List ℕ) → Type 0
ArePlain names = AllByRecursion (λ name. IsTrue (is_plain_name name)) names

-- the registration of some programs, with a completer; its function is named after this program
abbrev pub registration_of : SafeShell → List ℕ → List (List ℕ) → List ℕ
registration_of safe completer names =
    safe_registration safe.shell variable own_name names completer

-- what the registration reads back to: its variable, its completer and the names
abbrev pub RegistrationReads : SafeShell → List ℕ → List (List ℕ) → Type 0
RegistrationReads safe completer names = SafeReads safe.shell variable own_name names completer

-- the registration is written; it then reads back, and the names are plain
pub record WritesAll {S : Type 0} (taken : S → List ℕ) (failed : S → Failures)
    (completer : List ℕ) (names : List (List ℕ)) (safe : SafeShell) (old new : S)
    (result : Result (Unit {0}) Error) : Type 0 where
  pub writes : Writes taken failed result old new (registration_of safe completer names)
  pub read_back : OnOk result (RegistrationReads safe completer names)
  pub plain : OnOk result (ArePlain names)

-- The outcomes of writing it, by the request. If no shell is requested, nothing is written. If no
-- shell has the name, that is reported.
abbrev pub RegistersAll : {S : Type 0} → (S → List ℕ) → (S → Failures) → List ℕ → List (List ℕ)
    → Wanted SafeShell → S → S → Result (Unit {0}) Error → Type 0
RegistersAll taken failed completer names nothing old new result =
    (result ≡ Ok tt) × (new ≡ old)
RegistersAll taken failed completer names (unknown name) old new result =
    IfOk result (λ _. ⊥) × IfErr result (IsUnknownShell shell_names name) × (new ≡ old)
RegistersAll taken failed completer names (known safe) old new result =
    WritesAll taken failed completer names safe old new result
