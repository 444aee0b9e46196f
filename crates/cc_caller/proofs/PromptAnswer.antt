-- The answer to a prompt.
use Rattle.std.proofs.Common.{◌≡◌, ◌++◌, ◌-◌, refl, subst, sym, ℕ, Bool, false, true, List, [], ◌∷◌, Option, None, Some, Result, Ok, Err, IfOk, codes, length}
use Rattle.std.specs.Str.{bytes_eq}
use Rattle.clap_complete.specs.cc_command.Built.{built_tree}
use Rattle.clap_complete.specs.cc_candidates.declared.candidate.CompletionCandidate.{CompletionCandidate}
use Rattle.clap_complete.specs.cc_replies.Environment.{value_of}
use Rattle.clap_complete.specs.cc_replies.declared.environment.EnvValues.{EnvValues}
use Rattle.clap_complete.specs.cc_base.declared.error.Error.{Error}
use Rattle.clap_complete.specs.cc_base.declared.failures.Failures.{Failures}
use Rattle.clap_complete.specs.cc_env.Arguments.{after_dashes}
use Rattle.clap_complete.specs.cc_env.Steps.{Ends, EndsAs, MakesText, Tries, names_of, text_written}
use Rattle.clap_complete.specs.cc_env.Steps as made
use Rattle.clap_complete.specs.cc_command.Tree.{Tree}
use Rattle.clap_complete.specs.cc_env.Wanted.{Wanted, known, unknown, wanted_name, wanted_of}
use Rattle.cc_caller.specs.Prompt.{AnswersPrompt, IsAnswer, all_prompts, prompt_spec, registered, replied}
use Rattle.cc_caller.specs.declared.prompt.Prompt.{Prompt}

prompt_known : wanted_of (λ shell. prompt_spec.named) all_prompts (Some (codes "prompt")) ≡ known (record {})
prompt_known = refl

other_unknown : (name : List ℕ) → bytes_eq name (codes "prompt") ≡ false
    → wanted_of (λ shell. prompt_spec.named) all_prompts (Some name) ≡ unknown name
other_unknown name differs = rw (wanted_of, differs) refl

module _ (Makes : Result Tree Error → Type 0) (current : Option (List ℕ)) (env : EnvValues)
    (Offers : Tree → List (List ℕ) → ℕ → List CompletionCandidate → Type 0) where
  abbrev Text : List (List ℕ) → Result (List ℕ) Error → Type 0
  Text arguments = MakesText Makes prompt_spec (names_of (codes "COMPLETE") None None current) env Offers arguments

  -- a text that is made is the registration or the reply
  answer_of : (arguments : List (List ℕ)) (text : List ℕ) → Text arguments (Ok text) → IsAnswer Makes current Offers arguments text
  answer_of arguments text (made.registered tree program rest t makes none is) =
      subst (λ t. IsAnswer Makes current Offers (program ∷ rest) t) (sym is.is) (registered tree program rest makes none)
  answer_of arguments text (made.replied tree program rest (Ok t) makes some replies) =
      let reply = replies.1 in
      let found = reply.holds.0 in
      subst (λ t. IsAnswer Makes current Offers (program ∷ rest) t) (sym reply.holds.2)
      (replied tree program rest found makes some
      (subst (λ words. Offers (built_tree tree) words (length (after_dashes rest) - 1) found) reply.wants.1
      (subst (λ index. Offers (built_tree tree) reply.words index found) reply.wants.0 reply.holds.1)))

  module _ {S : Type 0} (taken : S → List ℕ) (failed : S → Failures) (arguments : List (List ℕ)) (old new : S) where
    abbrev TriesPrompt : Option (List ℕ) → Result Bool Error → Type 0
    TriesPrompt name result = Tries taken failed (λ shell. prompt_spec) all_prompts (λ shell. Text arguments) name old new result

    abbrev EndsWanted : Wanted Prompt → Result Bool Error → Type 0
    EndsWanted wanted result = EndsAs taken failed (codes "prompt" ∷ []) (λ shell. Text arguments) wanted old new result

    abbrev Answered : Result Bool Error → Type 0
    Answered result =
        IfOk result (λ done. (done ≡ true) × (text : List ℕ) × IsAnswer Makes current Offers arguments text × (taken new ≡ taken old ++ text))

    ended : (result : Result Bool Error) → Ends taken failed (Text arguments) old new result → Answered result
    ended (Ok done) (text_written text makes takes fails) = (refl, text, answer_of arguments text makes, takes)
    ended (Err error) ends = tt

    silent : (name : Option (List ℕ)) (result : Result Bool Error) → TriesPrompt name result → name ≡ None → (result ≡ Ok false) × (new ≡ old)
    silent name result tries is = subst (λ n. TriesPrompt n result) is tries

    asked : (name : Option (List ℕ)) (result : Result Bool Error) → TriesPrompt name result → name ≡ Some (codes "prompt") → Answered result
    asked name result tries is =
        ended result (subst (λ (wanted : Wanted Prompt). EndsWanted wanted result) prompt_known (subst (λ n. TriesPrompt n result) is tries))

    refused : (name : Option (List ℕ)) (result : Result Bool Error) → TriesPrompt name result → (other : List ℕ) → name ≡ Some other
        → bytes_eq other (codes "prompt") ≡ false → IfOk result (λ done. ⊥) × (new ≡ old)
    refused name result tries other is differs =
        let ends = subst (λ (wanted : Wanted Prompt). EndsWanted wanted result) (other_unknown other differs) (subst (λ n. TriesPrompt n result) is tries) in
        (ends.0, ends.2)

    answers : (name : Option (List ℕ)) (result : Result Bool Error) → TriesPrompt name result
        → AnswersPrompt taken (λ text. IsAnswer Makes current Offers arguments text) name old new result
    answers name result tries =
        record { silent = silent name result tries; asked = asked name result tries; unknown = refused name result tries }

-- the same of a program whose parts have other names
module _ {F S : Type 0} (Post : F → Result Tree Error → Type 0) (current : Option (List ℕ)) (env : EnvValues)
    (Offers : Tree → List (List ℕ) → ℕ → List CompletionCandidate → Type 0) (taken : S → List ℕ) (failed : S → Failures)
    (arguments : List (List ℕ)) (old new : S) (result : Result Bool Error) where
  abbrev Tried : F → List ℕ → Option (List ℕ) → Option (List ℕ) → List Prompt → Type 0
  Tried factory variable bin completer shells =
      Tries taken failed (λ shell. prompt_spec) shells
      (λ shell. MakesText (Post factory) prompt_spec (names_of variable bin completer current) env Offers arguments)
      (wanted_name (value_of variable env)) old new result

  pub prompt_answered : (factory made_by : F) (variable : List ℕ) (bin completer : Option (List ℕ)) (shells : List Prompt) → made_by ≡ factory
      → variable ≡ codes "COMPLETE" → bin ≡ None → completer ≡ None → shells ≡ all_prompts → Tried made_by variable bin completer shells
      → AnswersPrompt taken (λ text. IsAnswer (Post factory) current Offers arguments text) (wanted_name (value_of (codes "COMPLETE") env)) old new result
  prompt_answered factory made_by variable bin completer shells same named no_bin no_completer prompts tries =
      answers (Post factory) current env Offers taken failed arguments old new _ result
      (subst (λ f. Tried f (codes "COMPLETE") None None all_prompts) same
      (subst (λ v. Tried made_by v None None all_prompts) named
      (subst (λ b. Tried made_by variable b None all_prompts) no_bin
      (subst (λ k. Tried made_by variable bin k all_prompts) no_completer
      (subst (λ s. Tried made_by variable bin completer s) prompts tries)))))
