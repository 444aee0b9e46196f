-- The shell that the environment requests, without the text for it.
use Rattle.std.specs.Prelude.{◌≡◌, ℕ, List, map, Option, None, Some, Result, Ok, Err, IfErr, IfOk}
use Rattle.std.specs.Borrow.{Bor}
use Rattle.std.specs.Option.{option_copied}
use Rattle.cc_base.specs.declared.error.Error.{Error}
use Rattle.cc_env.specs.Builtins.{CompleterSpec}
use Rattle.cc_env.specs.Wanted.{Wanted, IsUnknownShell, wanted_of, known, nothing, unknown}

-- the shell in a result, without its reference
abbrev pub found_shell : {C : Type 0} → Result (Option (Bor C)) Error → Result (Option C) Error
found_shell (Ok shell) = Ok (option_copied shell)
found_shell (Err error) = Err error

-- the result, if nothing, an unknown shell or a known shell is requested
abbrev pub FindsAs : {C : Type 0} → List (List ℕ) → Wanted C → Result (Option C) Error → Type 0
FindsAs names nothing result = result ≡ Ok None
FindsAs names (unknown name) result =
    IfOk result (λ _. ⊥) × IfErr result (IsUnknownShell names name)
FindsAs names (known shell) result = result ≡ Ok (Some shell)

-- the same of these shells, for the name that is requested, if one is
abbrev pub FindsShell : {C : Type 0} → (C → CompleterSpec) → List C → Option (List ℕ)
    → Result (Option C) Error → Type 0
FindsShell spec shells name result =
    FindsAs (map (λ shell. (spec shell).name) shells)
    (wanted_of (λ shell. (spec shell).named) shells name) result
