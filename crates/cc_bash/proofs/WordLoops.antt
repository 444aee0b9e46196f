-- A loop that writes words goes on: the bytes taken since it began and the remaining words are the
-- whole, a word has been written or remains as before, and no put failed.
use Rattle.std.proofs.Common.{◌≡◌, ◌≤◌, [], ◌∷◌, ◌++◌, ◌||◌, ◌∙◌, ℕ, Bool, List, Result, Ok, Err, ap, arith, codes, length, length-append, sym}
use Rattle.std.proofs.lemmas.List.{append-nil}
use Rattle.cc_base.proofs.JoinedTexts.{begun_step, joined_step}
use Rattle.cc_base.proofs.WrittenTexts.{writes_same}
use Rattle.cc_base.specs.Joined.{has_texts, separator}
use Rattle.cc_base.specs.Writes.{Writes}
use Rattle.cc_base.specs.declared.error.Error.{Error}
use Rattle.cc_base.specs.declared.failures.Failures.{Failures}
use Rattle.cc_base.proofs.Stopped.{stops_joined}
use Rattle.cc_bash.specs.Words.{words_after}

abbrev pub WordsGoOn : {S : Type 0} → (S → List ℕ) → (S → Failures) → S → S → Bool → Bool → List (List ℕ) → List (List ℕ) → Type 0
WordsGoOn taken failed before sink started begun all rest = record {
  written : taken sink ++ words_after begun rest ≡ taken before ++ words_after started all;
  least : length (taken before) ≤ length (taken sink);
  begun : (begun || has_texts rest) ≡ (started || has_texts all);
  failures : failed sink ≡ failed before;
}

-- a word after its separator, as one of the words
pub word_written : {S : Type 0} {taken : S → List ℕ} {failed : S → Failures}
    {result : Result (Unit {0}) Error} {old new : S} (begun : Bool) (word : List ℕ) →
    Writes taken failed result old new (separator (codes " ") begun ++ word) →
    Writes taken failed result old new (words_after begun (word ∷ []))
word_written begun word w = writes_same _ _ (sym (append-nil (separator (codes " ") begun ++ word))) w

module _ {S : Type 0} {taken : S → List ℕ} {failed : S → Failures} {before mid new : S}
    (started begun : Bool) (all left first rest : List (List ℕ)) (is : left ≡ first ++ rest)
    (goes : WordsGoOn taken failed before mid started begun all left) where
  -- after the first of the remaining words the loop goes on with the others
  pub words_step : {u : Unit {0}} {now : Bool} →
      Writes taken failed (Ok u) mid new (words_after begun first) →
      now ≡ (begun || has_texts first) → WordsGoOn taken failed before new started now all rest
  words_step {u} {now} w then = record {
    written = joined_step (codes " ") begun now first rest (taken mid) (taken new) _ w.ok then
        (ap (λ words. taken mid ++ words_after begun words) (sym is) ∙ goes.written);
    least = let took = ap length w.ok in omega (arith, length-append {A = ℕ}, took, goes.least);
    begun = begun_step begun now _ first rest then
        (ap (λ words. begun || has_texts words) (sym is) ∙ goes.begun);
    failures = w.failures ∙ goes.failures;
  }

  -- the loop fails within the first of the remaining words
  pub words_stop : {error : Error} →
      Writes taken failed (Err error) mid new (words_after begun first) →
      Writes taken failed (Err error) before new (words_after started all)
  words_stop {error} w =
      stops_joined (codes " ") begun (words_after started all) left first rest is
      (record { whole = goes.written; least = goes.least; failures = goes.failures }) w
