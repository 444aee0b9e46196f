-- The completion that an environment requests.
use Rattle.std.proofs.Common.{◌≡◌, ℕ, List, Option, None, Some, Result, Ok, Err, codes, refl, subst}
use Rattle.std.specs.declared.alloc.Global.{Global}
use Rattle.std.specs.declared.process.ExitCode.{ExitCode}
use Rattle.cc_env.specs.Answers.{Told}
use Rattle.cc_arg.specs.declared.parts.ArgParts.{ArgParts as Arg}
use Rattle.cc_env.specs.Answers.{Parts}
use Rattle.cc_env.specs.OwnAnswers as own
use Rattle.cc_env.specs.OwnAnswers.{AnswersOwn, answered, unknown_shell}
use Rattle.cc_env.specs.OwnEnds.{EndsOwn, not_answered, not_requested, write_failed, written}
use Rattle.cc_base.specs.declared.error.Error.{Error}
use Rattle.cc_base.specs.declared.failures.Failures.{Failures}
use Rattle.cc_command.specs.Tree.{Tree}
use Rattle.cc_env.specs.SafeShells.{all_safe}
use Rattle.cc_env.specs.Wanted.{Wanted, nothing}
use Rattle.cc_env.specs.declared.safe_shell.SafeShell.{SafeShell}
use Rattle.cc_replies.specs.declared.environment.EnvValues.{EnvValues}
use Rattle.cc_program.specs.Requests.{TriesSome, tried}
use Rattle.cc_program.specs.Running.{Runs, ended}
use Rattle.cc_program.specs.Seen.{Seen}
use Rattle.cc_program.specs.Statuses.{IsRequested}
use Rattle.cc_program.specs.declared.failure.Failure.{Failure}
use Rattle.cc_program.specs.declared.streams.Streams.{Streams}

module _ {S F : Type 0} (old new : S) (result : Result (Option ℕ) Error) (factory : F)
    (Ends : Global → EnvValues → Option (List ℕ) → Option (List ℕ) → F → List ℕ → Option (List ℕ) → Option (List ℕ) → List SafeShell → Type 0) where
  -- the call ended so with these
  pub tries_some : (alloc : Global) (env : EnvValues) (current home : Option (List ℕ)) (made_by : F) (variable : List ℕ) (bin completer : Option (List ℕ))
      (shells : List SafeShell) → made_by ≡ factory → variable ≡ codes "COMPLETE" → bin ≡ None → completer ≡ None → shells ≡ all_safe
      → Ends alloc env current home made_by variable bin completer shells → TriesSome old new result factory Ends
  tries_some alloc env current home made_by variable bin completer shells same named no_bin no_completer built ends =
      tried alloc env current home
      (subst (λ f. Ends alloc env current home f (codes "COMPLETE") None None all_safe) same
      (subst (λ v. Ends alloc env current home made_by v None None all_safe) named
      (subst (λ b. Ends alloc env current home made_by variable b None all_safe) no_bin
      (subst (λ k. Ends alloc env current home made_by variable bin k all_safe) no_completer
      (subst (λ s. Ends alloc env current home made_by variable bin completer s) built ends)))))

-- ---- whether a shell requests a completion

module _ (names : List (List ℕ)) (Makes : Result Tree Error → Type 0) (parts : SafeShell → Parts) (Gives : Arg → List ℕ → Type 0) where
  pub answer_requested : (requested : Wanted SafeShell) (told : Told) → AnswersOwn names Makes parts Gives requested (Ok (Some told)) → IsRequested requested
  answer_requested requested told (answered shell tree t makes answers) = tt

  pub failure_requested : (requested : Wanted SafeShell) (error : Error) → AnswersOwn names Makes parts Gives requested (Err error) → IsRequested requested
  failure_requested requested error (unknown_shell name e is) = tt
  failure_requested requested error (own.not_made shell e makes) = tt
  failure_requested requested error (own.not_answered shell tree e makes answers) = tt

  pub none_requested : (requested : Wanted SafeShell) → AnswersOwn names Makes parts Gives requested (Ok None) → requested ≡ nothing
  none_requested requested own.not_requested = refl

-- ---- the end of a completion

module _ {S : Type 0} (taken : S → List ℕ) (failures : S → Failures) (names : List (List ℕ)) (Makes : Result Tree Error → Type 0) (parts : SafeShell → Parts)
    (Gives : Arg → List ℕ → Type 0) (requested : Wanted SafeShell) (old new : S) where
  abbrev Ends : Result (Option ℕ) Error → Type 0
  Ends = EndsOwn taken failures (AnswersOwn names Makes parts Gives requested) old new

  -- an answer or an error comes only if a completion is requested
  pub status_requested : (status : ℕ) → Ends (Ok (Some status)) → IsRequested requested
  status_requested status (written told answers takes fails) = answer_requested names Makes parts Gives requested told answers

  pub error_requested : (error : Error) → Ends (Err error) → IsRequested requested
  error_requested error (not_answered e answers same) = failure_requested names Makes parts Gives requested error answers
  error_requested error (write_failed told kind answers begun fails) = answer_requested names Makes parts Gives requested told answers

  pub some_of : (found : Option ℕ) (status : ℕ) → found ≡ Some status → Ends (Ok found) → IsRequested requested × Ends (Ok (Some status))
  some_of found status is ends =
      let same = subst (λ (f : Option ℕ). Ends (Ok f)) is ends in
      (status_requested status same, same)

  -- no answer: nothing is requested, and nothing is written
  nothing_requested : Ends (Ok None) → (requested ≡ nothing) × (new ≡ old)
  nothing_requested (not_requested answers same) = (none_requested names Makes parts Gives requested answers, same)

  pub none_of : (found : Option ℕ) → found ≡ None → Ends (Ok found) → (requested ≡ nothing) × (new ≡ old)
  none_of found is ends = nothing_requested (subst (λ (f : Option ℕ). Ends (Ok f)) is ends)

-- ---- the whole program

module _ {E F : Type 0} (factory : F)
    (Ends : Global → List (List ℕ) → EnvValues → Option (List ℕ) → Option (List ℕ) → F → List ℕ → Option (List ℕ) → Option (List ℕ) → List SafeShell
    → Streams Seen Seen → Result ExitCode (Failure E) → Type 0) (result : Result ExitCode (Failure E)) where
  -- the program ended so with these
  pub runs_some : (alloc : Global) (words : List (List ℕ)) (env : EnvValues) (current home : Option (List ℕ)) (made_by : F) (variable : List ℕ)
      (bin completer : Option (List ℕ)) (shells : List SafeShell) (new : Streams Seen Seen) → made_by ≡ factory → variable ≡ codes "COMPLETE" → bin ≡ None
      → completer ≡ None → shells ≡ all_safe → Ends alloc words env current home made_by variable bin completer shells new result → Runs factory Ends result
  runs_some alloc words env current home made_by variable bin completer shells new same named no_bin no_completer built ends =
      ended alloc words env current home new result
      (subst (λ f. Ends alloc words env current home f (codes "COMPLETE") None None all_safe new result) same
      (subst (λ v. Ends alloc words env current home made_by v None None all_safe new result) named
      (subst (λ b. Ends alloc words env current home made_by variable b None all_safe new result) no_bin
      (subst (λ k. Ends alloc words env current home made_by variable bin k all_safe new result) no_completer
      (subst (λ s. Ends alloc words env current home made_by variable bin completer s new result) built ends)))))
