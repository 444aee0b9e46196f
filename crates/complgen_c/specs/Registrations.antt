-- The outcomes of making a registration in memory.
use Rattle.std.specs.Prelude.{◌≡◌, ℕ, Bool, true, false, List, map, find, Option, None, Some}
use Rattle.std.specs.Str.{IsUtf8}
use Rattle.cc_base.specs.declared.error.Error.{Error}
use Rattle.cc_env.specs.Builtins.{CompleterSpec, all_builtins, builtin_spec}
use Rattle.cc_env.specs.SafeShells.{all_safe, safe_spec}
use Rattle.cc_env.specs.Steps.{IsRegistration, Names}
use Rattle.cc_env.specs.Wanted.{IsUnknownShell}
use Rattle.complgen_scripts.specs.Refusals.{IsOutOfMemory, Reports}
use Rattle.complgen_scripts.specs.declared.refusals.Refusal.{Refusal}
use Rattle.complgen_c.specs.declared.outcome.Outcome.{Outcome}
use Rattle.complgen_c.specs.declared.outcome.Outcome.TheVariants.{Failed, Made, NotUtf8}
use Rattle.complgen_c.specs.declared.registrations.PassedNames.{PassedNames}
use Rattle.complgen_c.specs.declared.registrations.TextNames.{TextNames}

-- ---- the names in a registration

-- the names that the caller passes
abbrev pub passed_names : PassedNames → Names
passed_names passed = record {
  variable = passed.variable.now;
  name = passed.name.now;
  bin = passed.bin.now;
  completer = passed.completer.now;
}

abbrev pub text_names : TextNames → Names
text_names texts = record {
  variable = texts.variable.now;
  name = texts.name.now;
  bin = texts.bin.now;
  completer = texts.completer.now;
}

-- not all are UTF-8
abbrev pub NotUtf8Names : Names → Type 0
NotUtf8Names names =
    IsUtf8 names.variable → IsUtf8 names.name → IsUtf8 names.bin → IsUtf8 names.completer → ⊥

-- the text with these bytes, or none if they are not UTF-8
abbrev pub IsText : List ℕ → Option (List ℕ) → Type 0
IsText bytes None = IsUtf8 bytes → ⊥
IsText bytes (Some text) = text ≡ bytes

-- the same for the names
abbrev pub AreTexts : Names → Option TextNames → Type 0
AreTexts names None = NotUtf8Names names
AreTexts names (Some texts) = text_names texts ≡ names

-- ---- the outcomes

-- the text of a shell's registration, with what it reads back to; or out of memory
abbrev pub MakesText : CompleterSpec → Names → Outcome → Type 0
MakesText shell names (Made text) = IsRegistration shell names text
MakesText shell names (Failed refusal) = IsOutOfMemory refusal
MakesText shell names _ = ⊥

-- the outcomes for some shells: the first that has the name counts
pub data MakesIn {C : Type 0} (spec : C → CompleterSpec) (shells : List C) (name : List ℕ)
    (names : Names) : Outcome → Type 0 where
  -- no shell has the name, which the message says
  unknown_shell : (error : Error) (refusal : Refusal)
      → find (λ shell. (spec shell).named name) shells ≡ None
      → IsUnknownShell (map (λ shell. (spec shell).name) shells) name error
      → Reports error refusal → MakesIn spec shells name names (Failed refusal)
  -- the registration of the shell
  known_shell : (shell : C) (outcome : Outcome)
      → find (λ shell. (spec shell).named name) shells ≡ Some shell
      → MakesText (spec shell) names outcome → MakesIn spec shells name names outcome

-- the outcomes for the safe set, or for the original's
abbrev pub MakesOf : Bool → List ℕ → Names → Outcome → Type 0
MakesOf true name names outcome = MakesIn safe_spec all_safe name names outcome
MakesOf false name names outcome = MakesIn builtin_spec all_builtins name names outcome

-- the outcomes of the call, for a set, the name of a shell, and the names in the registration
pub data MakesRegistration (safe : Bool) (name : List ℕ) (names : Names) : Outcome → Type 0 where
  -- the name of the shell or another one is not UTF-8
  not_utf8 : (IsUtf8 name → NotUtf8Names names) → MakesRegistration safe name names NotUtf8
  -- all are texts
  texts : (outcome : Outcome) → MakesOf safe name names outcome
      → MakesRegistration safe name names outcome
