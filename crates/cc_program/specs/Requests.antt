-- The requests of a shell, by an environment that is not known beforehand.
use Rattle.std.specs.Prelude.{◌≡◌, ⊤, ℕ, List, Option, None, Result, Err, codes}
use Rattle.std.specs.declared.alloc.Global.{Global}
use Rattle.cc_env.specs.SafeShells.{all_safe}
use Rattle.cc_env.specs.declared.safe_shell.SafeShell.{SafeShell}
use Rattle.cc_base.specs.declared.error.Error.{Error}
use Rattle.cc_base.specs.declared.error.Error.TheVariants.{Memory}
use Rattle.cc_candidates.specs.Folders.{FolderFacts}
use Rattle.cc_replies.specs.declared.environment.EnvValues.{EnvValues}

-- of the system's folders nothing is known beforehand but the home folder of the user
abbrev pub system_facts : Option (List ℕ) → FolderFacts
system_facts home = record {
  names = λ _ _. ⊤;
  is_dir = λ _ _. ⊤;
  is_file = λ _ _. ⊤;
  is_executable = λ _ _. ⊤;
  home = home;
}

-- The ends of a call that completes words by an environment: memory ran out before anything was
-- written; or it ended so for some values of environment variables, some current folder and some
-- home folder, with the commands that the factory makes, the variable `COMPLETE`, neither a binary
-- nor a completer set, and the safe shells.
pub data TriesSome {S F : Type 0} (old new : S) (result : Result (Option ℕ) Error)
    (factory : F)
    (Ends : Global → EnvValues → Option (List ℕ) → Option (List ℕ) → F → List ℕ → Option (List ℕ)
    → Option (List ℕ) → List SafeShell → Type 0) : Type 0 where
  out_of_memory : result ≡ Err Memory → new ≡ old → TriesSome old new result factory Ends
  tried : (alloc : Global) (env : EnvValues) (current home : Option (List ℕ))
      → Ends alloc env current home factory (codes "COMPLETE") None None all_safe
      → TriesSome old new result factory Ends
