-- The answer of a program, of which a call states the parts.
use Rattle.std.proofs.Common.{◌≡◌, subst, ℕ, List, Option, None, Result, codes}
use Rattle.clap_complete.specs.cc_arg.declared.parts.ArgParts.{ArgParts as Arg}
use Rattle.clap_complete.specs.cc_env.WithLines.{passed_lines}
use Rattle.clap_complete.specs.cc_env.OwnAnswers.{AnswersBy, own_parts}
use Rattle.clap_complete.specs.cc_env.OwnEnds.{EndsOwn}
use Rattle.clap_complete.specs.cc_base.declared.error.Error.{Error}
use Rattle.clap_complete.specs.cc_base.declared.failures.Failures.{Failures}
use Rattle.clap_complete.specs.cc_command.Tree.{Tree}
use Rattle.clap_complete.specs.cc_env.SafeShells.{all_safe}
use Rattle.clap_complete.specs.cc_env.Steps.{names_of}
use Rattle.clap_complete.specs.cc_env.declared.safe_shell.SafeShell.{SafeShell}
use Rattle.clap_complete.specs.cc_engine.Values.{MayReturn}
use Rattle.clap_complete.specs.cc_replies.Environment.{value_of}
use Rattle.clap_complete.specs.cc_replies.declared.environment.EnvValues.{EnvValues}
use Rattle.cc_caller.specs.Branches.{AnswersOver}

module _ {F S : Type 0} (Post : F → Result Tree Error → Type 0) (current : Option (List ℕ)) (env : EnvValues) (args : List (List ℕ))
    (returned : MayReturn) (output : List ℕ) (taken : S → List ℕ) (failed : S → Failures) (old new : S) (result : Result (Option ℕ) Error) where
  abbrev Ended : F → List ℕ → Option (List ℕ) → Option (List ℕ) → List SafeShell → Type 0
  Ended factory variable bin completer shells =
      EndsOwn taken failed
      (AnswersBy shells (Post factory) (own_parts (names_of variable bin completer current) env args returned)
      (λ (asked : Arg) (lines : List ℕ). lines ≡ passed_lines output asked) (value_of variable env)) old new result

  pub answered_over : (factory made_by : F) (variable : List ℕ) (bin completer : Option (List ℕ)) (shells : List SafeShell) → made_by ≡ factory
      → variable ≡ codes "COMPLETE" → bin ≡ None → completer ≡ None → shells ≡ all_safe → Ended made_by variable bin completer shells
      → EndsOwn taken failed (AnswersOver (Post factory) current env args returned output) old new result
  answered_over factory made_by variable bin completer shells same named no_bin no_completer built ends =
      subst (λ f. Ended f (codes "COMPLETE") None None all_safe) same
      (subst (λ v. Ended made_by v None None all_safe) named
      (subst (λ b. Ended made_by variable b None all_safe) no_bin
      (subst (λ k. Ended made_by variable bin k all_safe) no_completer
      (subst (λ s. Ended made_by variable bin completer s) built ends))))
