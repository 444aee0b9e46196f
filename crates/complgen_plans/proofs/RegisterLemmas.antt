-- The outcomes of writing a registration.
use Rattle.std.proofs.Common.{◌≡◌, ap, refl, subst, sym, ℕ, List, Option, None, Some}
use Rattle.std.proofs.Common.{true, Result, Ok, Err}
use Rattle.std.specs.Prelude.{option_map}
use Rattle.complgen_scripts.specs.Refusals.{IsRefusal}
use Rattle.complgen_scripts.specs.declared.refusals.Refusal.{Refusal}
use Rattle.cc_env.specs.declared.builtin.Builtin.{Builtin}
use Rattle.cc_base.specs.declared.error.Error.{Error}
use Rattle.cc_base.specs.declared.error.Error.TheVariants as error
use Rattle.cc_base.specs.declared.failures.Failures.{Failures}
use Rattle.cc_command.specs.Tree.{Tree}
use Rattle.cc_base.specs.Writes.{Writes}
use Rattle.complgen_scripts.specs.Refusals.{Reports, error_line}
use Rattle.complgen_plans.specs.Registrations.{IsRegistration, Registers, AdapterReads, RegistrationReadsBy}
use Rattle.complgen_plans.specs.Registrations.{no_registration, registration_by, some_registration}
use Rattle.complgen_scripts.specs.Writing.{Finishes}
use Rattle.complgen_scripts.proofs.WritingLemmas.{ends_failed, ends_written, same}
use Rattle.complgen_tree_file.specs.TreeFile.{HoldsTree}

module _ {S : Type 0} (taken : S → List ℕ) (failed : S → Failures) (message bin : List ℕ)
    (file : Option (List ℕ)) (found : Option Builtin) where
  -- there is no adapter for the shell
  pub without_registration : (state : S) (refusal : Refusal) → found ≡ None
      → IsRefusal (error_line (error.UnknownShell message)) refusal
      → Registers taken failed (AdapterReads found) message bin file state state
      (option_map registration_by found) (Err refusal)
  without_registration state refusal is reported =
      subst (λ f. Registers taken failed (AdapterReads f) message bin file state state
      (option_map registration_by f) (Err refusal)) (sym is)
      (no_registration refusal reported (same taken failed state))

  -- there is an adapter for the shell
  pub with_registration : (old new : S) (adapter : Builtin) (result : Result (Unit {0}) Refusal)
      → found ≡ Some adapter
      → Finishes taken failed true (λ tree refusal. ⊥)
      (IsRegistration (registration_by adapter) (RegistrationReadsBy adapter) bin) old new file result
      → Registers taken failed (AdapterReads found) message bin file old new
      (option_map registration_by found) result
  with_registration old new adapter result is ends =
      subst (λ f. Registers taken failed (AdapterReads f) message bin file old new
      (option_map registration_by f) result) (sym is)
      (some_registration (registration_by adapter) result ends)

module _ {S : Type 0} (taken : S → List ℕ) (failed : S → Failures)
    (registration : List ℕ → List ℕ → List ℕ) (Reads : List ℕ → List ℕ → Type 0) (bin : List ℕ)
    (old new : S) (file : Option (List ℕ)) (tree : Tree) (name : List ℕ) where
  -- the text is the registration, and it reads back
  is_registration : name ≡ tree.node.name → Reads name bin
      → IsRegistration registration Reads bin tree (registration name bin)
  is_registration named read = record {
    is = ap (λ n. registration n bin) named;
    read_back = subst (λ n. Reads n bin) named read;
  }

  -- the registration is written
  pub registered : HoldsTree file tree → name ≡ tree.node.name
      → Writes taken failed (Ok tt) old new (registration name bin) → Reads name bin
      → Finishes taken failed true (λ tree refusal. ⊥) (IsRegistration registration Reads bin)
      old new file (Ok tt)
  registered held named wrote read =
      ends_written taken failed true (λ tree refusal. ⊥) (IsRegistration registration Reads bin)
      old new file tree (registration name bin) held (is_registration named read) wrote.ok
      wrote.failures

  -- writing it fails
  pub register_failed : (e : Error) (refusal : Refusal) → HoldsTree file tree
      → name ≡ tree.node.name → Writes taken failed (Err e) old new (registration name bin)
      → Reads name bin → Reports e refusal
      → Finishes taken failed true (λ tree refusal. ⊥) (IsRegistration registration Reads bin)
      old new file (Err refusal)
  register_failed e refusal held named wrote read reported =
      ends_failed taken failed true (λ tree refusal. ⊥) (IsRegistration registration Reads bin)
      old new file tree (registration name bin) e refusal refl held (is_registration named read)
      wrote.begun wrote.failures wrote.kinds reported
