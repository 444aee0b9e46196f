-- Lemmas for telling for which values a word is asked.
use Rattle.std.proofs.Common.{◌≡◌, ◌∙◌, ◌++◌, ◌-◌, append_assoc, decimal, length, map, subst, sym, ℕ, List, Some, Ok}
use Rattle.std.proofs.lemmas.List.{length-map}
use Rattle.std.specs.Prelude.{String, string_bytes}
use Rattle.std.specs.declared.alloc.Global.{Global}
use Rattle.std.specs.List.{All}
use Rattle.std.specs.Str.{IsUtf8}
use Rattle.cc_base.specs.declared.error.Error.{Error}
use Rattle.cc_command.specs.Built.{built_tree}
use Rattle.cc_command.specs.Tree.{Tree}
use Rattle.cc_engine.specs.Asked.{AsksValues}
use Rattle.cc_engine.specs.Completion.{Refuses}
use Rattle.cc_engine.specs.declared.questions.AskedValue.{AskedValue}
use Rattle.complgen_scripts.specs.Refusals.{Reports}
use Rattle.complgen_scripts.specs.TreeFiles.{ReadsFile}
use Rattle.complgen_scripts.specs.declared.refusals.Refusal.{Refusal}
use Rattle.complgen_c.specs.AskedValues.{MakesAsked, TellsAsked, TellsValues, nul, refused, told, values, written_value}
use Rattle.complgen_c.specs.declared.outcome.Outcome.{Outcome}
use Rattle.complgen_c.specs.declared.outcome.Outcome.TheVariants.{Failed}

regrouped : (a b c d e f : List ℕ) → (a ++ b) ++ ((c ++ d) ++ (e ++ f)) ≡ a ++ (b ++ (c ++ (d ++ (e ++ f))))
regrouped a b c d e f = simp append_assoc

-- the parts of a value are written
pub parts_written : (line id text : List ℕ) (value : AskedValue)
    → line ≡ id ++ (nul ++ (decimal value.number ++ (nul ++ (text ++ nul))))
    → id ≡ value.id → text ≡ value.text → line ≡ written_value value
parts_written line id text value is first last =
    let joined : line ≡ (id ++ nul) ++ ((decimal value.number ++ nul) ++ (text ++ nul)) =
    is ∙ sym (regrouped id nul (decimal value.number) nul text nul) in
    cc

module _ (root : Tree) (words : List (String Global)) where
  abbrev texts : List (List ℕ)
  texts = map string_bytes words

  module _ (built : Tree) (index : ℕ) (last : index ≡ length words - 1) where
    -- the index of the last text
    of_texts : (Says : ℕ → ℕ → Type 0) → Says (length words) index → Says (length texts) (length texts - 1)
    of_texts Says says =
        subst (λ count. Says count (count - 1)) (sym (length-map words string_bytes))
        (subst (Says (length words)) last says)

    -- the values for the texts of the words
    pub values_told : (found : List AskedValue) (outcome : Outcome) → AsksValues built texts index found
        → built ≡ built_tree root → TellsValues found outcome → TellsAsked root texts outcome
    values_told found outcome asks is tells =
        values found outcome
        (of_texts (λ count at. AsksValues (built_tree root) texts at found)
        (subst (λ tree. AsksValues tree texts index found) is asks)) tells

    -- there are none
    pub refusal_told : (error : Error) (refusal : Refusal)
        → Refuses root built (length words) index error → Reports error refusal
        → TellsAsked root texts (Failed refusal)
    refusal_told error refusal refuses reports =
        refused built error refusal
        (of_texts (λ count at. Refuses root built count at error) refuses) reports

  -- the outcome for the words that the caller passes
  pub texts_told : (tree : List ℕ) (slices : List (List ℕ)) (outcome : Outcome)
      → (texts ≡ slices) × All IsUtf8 slices → ReadsFile (Some tree) (Ok root)
      → TellsAsked root texts outcome → MakesAsked tree slices outcome
  texts_told tree slices outcome are reads tells =
      told root outcome are.1 reads (subst (λ (w : List (List ℕ)). TellsAsked root w outcome) are.0 tells)
