-- Lemmas for the shell and the command of a request.
use Rattle.std.proofs.Common.{◌≡◌, ◌∙◌, ap, refl, sym, subst, find, map, ℕ, List, Option, Some, None, Ok, Err}
use Rattle.std.specs.Borrow.{Bor}
use Rattle.std.specs.Option.{option_copied}
use Rattle.cc_base.specs.declared.error.Error.{Error}
use Rattle.cc_base.specs.declared.error.Error.TheVariants.{Memory}
use Rattle.cc_env.specs.SafeShells.{all_safe, safe_spec}
use Rattle.cc_env.specs.Wanted.{Wanted, IsUnknownShell, wanted_name, wanted_of, known, unknown}
use Rattle.cc_env.specs.declared.safe_shell.SafeShell.{SafeShell}
use Rattle.cc_replies.specs.Environment.{value_of}
use Rattle.cc_replies.specs.declared.environment.EnvValues.{EnvValues}
use Rattle.complgen_live.specs.Prepared.{Prepares, bad_tree, no_request, no_tree, out_of_memory, requested, unknown_shell, variable}
use Rattle.complgen_live.specs.TreeErrors.{DescribedBy}
use Rattle.complgen_live.specs.declared.reply_errors.ReplyError.{ReplyError}
use Rattle.complgen_live.specs.declared.reply_errors.ReplyError.TheVariants.{Library, Tree as BadFile}

-- the request that a name makes
abbrev by_name : Option (List ℕ) → Wanted SafeShell
by_name name = wanted_of (λ shell. (safe_spec shell).named) all_safe name

abbrev by_shell : List ℕ → Option SafeShell → Wanted SafeShell
by_shell name found = elim found [
  | Some shell ↦ known shell
  | None ↦ unknown name
]

-- the shell that has the name
pub requests : (env : EnvValues) (name : List ℕ) (shells : List SafeShell) (shell : SafeShell)
    → Some name ≡ wanted_name (value_of variable env) → shells ≡ all_safe
    → find (λ (shell : SafeShell). (safe_spec shell).named name) shells ≡ Some shell
    → requested env ≡ known shell
requests env name shells shell is all found =
    ap by_name (sym is) ∙ ap (by_shell name) (subst (λ (l : List SafeShell).
    find (λ (shell : SafeShell). (safe_spec shell).named name) l ≡ Some shell) all found)

module _ (env : EnvValues) where
  -- there is no tree file
  pub unfiled : (file : Option (Bor (List ℕ)))
      → ((bytes : Bor (List ℕ)) → file ≡ Some bytes → ⊥)
      → Prepares env (option_copied file) (Ok None)
  unfiled None none = no_tree
  unfiled (Some bytes) none = absurd (none bytes refl)

  -- nothing is requested
  pub unrequested : (bytes : List ℕ) (name : Option (Bor (List ℕ)))
      → option_copied name ≡ wanted_name (value_of variable env)
      → ((shown : Bor (List ℕ)) → name ≡ Some shown → ⊥)
      → Prepares env (Some bytes) (Ok None)
  unrequested bytes None is none = no_request bytes (ap by_name (sym is))
  unrequested bytes (Some shown) is none = absurd (none shown refl)

  -- no shell has the name
  pub unknown_named : (bytes name : List ℕ) (shells : List SafeShell) (error : Error)
      → Some name ≡ wanted_name (value_of variable env) → shells ≡ all_safe
      → find (λ (shell : SafeShell). (safe_spec shell).named name) shells ≡ None
      → IsUnknownShell (map (λ (shell : SafeShell). (safe_spec shell).name) shells) name error
      → Prepares env (Some bytes) (Err (Library error))
  unknown_named bytes name shells error is all none reports =
      unknown_shell bytes name error
      (ap by_name (sym is) ∙ ap (by_shell name) (subst (λ (l : List SafeShell).
      find (λ (shell : SafeShell). (safe_spec shell).named name) l ≡ None) all none))
      (subst (λ (l : List SafeShell). IsUnknownShell
      (map (λ (shell : SafeShell). (safe_spec shell).name) l) name error) all reports)

  -- the file describes no command
  pub undescribed : (bytes : List ℕ) (shell : SafeShell) (error : ReplyError)
      → requested env ≡ known shell → DescribedBy bytes (Err error)
      → Prepares env (Some bytes) (Err error)
  undescribed bytes shell (BadFile problem) is bad = bad_tree bytes shell problem is bad
  undescribed bytes shell (Library Memory) is bad = out_of_memory bytes
  undescribed bytes shell (Library _) is bad = absurd bad
