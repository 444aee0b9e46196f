-- Lemmas for the outcomes of writing a script into memory.
use Rattle.std.proofs.Common.{◌≡◌, ◌∙◌, ◌++◌, ap, refl, sym, subst, true, ℕ, List, [], Option, Some, Result, Ok, Err}
use Rattle.cc_base.specs.Collected.{collected_bytes, collected_failures}
use Rattle.cc_base.specs.Partly.{partly_self}
use Rattle.cc_base.specs.Sink.{none_failed}
use Rattle.cc_base.specs.declared.collected.Collected.{Collected}
use Rattle.cc_shell.specs.declared.shell.Shell.{Shell}
use Rattle.complgen_scripts.specs.declared.refusals.Refusal.{Refusal}
use Rattle.complgen_scripts.specs.ScriptEnds.{EndsScript, NamedScriptReads, known_shell, unknown_shell}
use Rattle.complgen_scripts.specs.Scripts.{IsScript, SharesLabel}
use Rattle.complgen_scripts.specs.Writing.{Finishes, Untouched, no_tree, no_text, out_of_memory}
use Rattle.complgen_scripts.specs.Writing.{out_of_memory_in_text, write_failed, written}
use Rattle.complgen_c.specs.Outcomes.{FailsInMemory}
use Rattle.complgen_c.specs.Scripts.{EndsWithText, MakesScript}
use Rattle.complgen_c.specs.Scripts as ends
use Rattle.complgen_c.specs.declared.outcome.Outcome.TheVariants.{Failed, Made}
use Rattle.complgen_c.proofs.Failures.{none_counted, some_counted}

-- if the written text is empty, nothing is written
abbrev untouched : Untouched (λ (text : List ℕ). text) (λ (text : List ℕ). none_failed) [] []
untouched = record { taken_same = refl; failed_same = refl }

module _ (before after : Collected) (empty : collected_bytes before ≡ [])
    (unfailed : collected_failures before ≡ none_failed) where
  -- what holds for a refusal holds for the one that is made from it, if no write failed
  same_refusal : (Says : Refusal → Type 0) (refusal made : Refusal)
      → FailsInMemory (collected_failures after) (λ r. r ≡ refusal) made
      → collected_failures after ≡ collected_failures before → Says refusal → Says made
  same_refusal Says refusal made fails same says =
      subst Says (sym (fails.none_failed
      (none_counted (collected_failures before) (collected_failures after) unfailed same))) says

  module _ (shell : Shell) (bin : List ℕ) where
    abbrev Finished : List ℕ → Option (List ℕ) → Result (Unit {0}) Refusal → Type 0
    Finished text file result = Finishes (λ (text : List ℕ). text) (λ (text : List ℕ). none_failed) true
        (SharesLabel shell bin) (IsScript shell bin) [] text file result

    abbrev FinishedInMemory : Option (List ℕ) → Result (Unit {0}) Refusal → Type 0
    FinishedInMemory file (Ok done) = Finished (collected_bytes after) file (Ok done)
    FinishedInMemory file (Err refusal) = (made : Refusal)
        → FailsInMemory (collected_failures after) (λ r. r ≡ refusal) made → Finished [] file (Err made)

    finished : {file : Option (List ℕ)} {result : Result (Unit {0}) Refusal}
        → Finishes collected_bytes collected_failures true (SharesLabel shell bin) (IsScript shell bin)
        before after file result → FinishedInMemory file result
    finished (no_tree file refusal holds same) = λ made fails.
        same_refusal (λ r. Finished [] file (Err r)) refusal made fails same.failed_same
        (no_tree file refusal holds untouched)
    finished (no_text bytes tree refusal described rejected same) = λ made fails.
        same_refusal (λ r. Finished [] (Some bytes) (Err r)) refusal made fails same.failed_same
        (no_text bytes tree refusal described rejected untouched)
    finished (out_of_memory bytes refusal out same) = λ made fails.
        same_refusal (λ r. Finished [] (Some bytes) (Err r)) refusal made fails same.failed_same
        (out_of_memory bytes refusal out untouched)
    finished (write_failed bytes text tree kind refusal described is reported begun counted) =
        λ made fails.
        out_of_memory bytes made (fails.some_failed
        (some_counted (collected_failures before) (collected_failures after) kind unfailed counted)) untouched
    finished (out_of_memory_in_text bytes text tree refusal allocates described is out begun same) =
        λ made fails.
        same_refusal (λ r. Finished [] (Some bytes) (Err r)) refusal made fails same
        (out_of_memory_in_text bytes text tree refusal allocates described is out (partly_self [] text) refl)
    finished (written bytes text tree described is took counts) =
        written bytes text tree described is (took ∙ ap (λ b. b ++ text) empty) refl

  module _ (name bin tree : List ℕ) where
    abbrev EndsInMemory : Result (Unit {0}) Refusal → Type 0
    EndsInMemory (Ok done) = EndsWithText name bin tree (collected_bytes after) (Ok done)
    EndsInMemory (Err refusal) = (made : Refusal)
        → FailsInMemory (collected_failures after) (λ r. r ≡ refusal) made
        → EndsWithText name bin tree [] (Err made)

    ended : {result : Result (Unit {0}) Refusal}
        → EndsScript collected_bytes collected_failures name bin (Some tree) before after result
        → EndsInMemory result
    ended (unknown_shell refusal finds same) = λ made fails.
        same_refusal (λ r. EndsWithText name bin tree [] (Err r)) refusal made fails same.failed_same
        (unknown_shell refusal finds untouched)
    ended (known_shell shell (Ok done) finds by) =
        known_shell shell (Ok done) finds (finished shell bin by)
    ended (known_shell shell (Err refusal) finds by) = λ made fails.
        known_shell shell (Err made) finds (finished shell bin by made fails)

    -- the script is made
    pub script_made : (text : List ℕ) (name' bin' : List ℕ) → name' ≡ name → bin' ≡ bin
        → text ≡ collected_bytes after
        → EndsScript collected_bytes collected_failures name bin (Some tree) before after (Ok tt)
        → NamedScriptReads name bin (Some tree) → MakesScript name' bin' tree (Made text)
    script_made text name' bin' e f is done reads =
        subst (λ (n : List ℕ). MakesScript n bin' tree (Made text)) (sym e)
        (subst (λ (b : List ℕ). MakesScript name b tree (Made text)) (sym f)
        (ends.made text (subst (λ (t : List ℕ). EndsWithText name bin tree t (Ok tt)) (sym is) (ended done)) reads))

    -- there is no script
    pub script_failed : (refusal answer : Refusal) (name' bin' : List ℕ) → name' ≡ name → bin' ≡ bin
        → EndsScript collected_bytes collected_failures name bin (Some tree) before after (Err refusal)
        → FailsInMemory (collected_failures after) (λ r. r ≡ refusal) answer
        → MakesScript name' bin' tree (Failed answer)
    script_failed refusal answer name' bin' e f done fails =
        subst (λ (n : List ℕ). MakesScript n bin' tree (Failed answer)) (sym e)
        (subst (λ (b : List ℕ). MakesScript name b tree (Failed answer)) (sym f)
        (ends.failed answer (ended done answer fails)))
