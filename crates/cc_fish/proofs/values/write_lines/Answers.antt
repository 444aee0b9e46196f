use Rattle.std.proofs.Common.{◌≡◌, ◌+◌, ◌∙◌, ◌++◌, ℕ, List, [], ◌∷◌, ap, arith, drop, filter, length, length-append, map, not, refl, rules, sym, true}
use Rattle.std.proofs.lemmas.List.{append-nil}
use Rattle.std.proofs.Math.Bool.{or-true}
use Rattle.cc_arg.specs.declared.possible_value.PossibleValue.{PossibleValue}
use Rattle.cc_base.proofs.JoinedTexts.{joined_step}
use Rattle.cc_base.proofs.Lists.{one_more}
use Rattle.cc_base.proofs.WrittenTexts.{writes_same}
use Rattle.cc_base.specs.Bytes.{line_feed}
use Rattle.cc_base.specs.Joined.{joined_after, separator}
use Rattle.cc_fish.specs.Script.{value_text}
use Rattle.cc_fish.proofs.values.write_lines.Goals as goal

-- the texts of the values that are shown
abbrev shown_texts : List PossibleValue → List (List ℕ)
shown_texts values = map value_text (filter (λ value. not value.hide) values)

pub loop-value-preserved : goal.loop-value-preserved
loop-value-preserved g c =
    let items = c.args.values.now in
    let i = c.loop-value.value-index in
    let item = c.value-item.result in
    let begun = c.loop-value.begun in
    let between : List ℕ = line_feed ∷ [] in
    let text : List ℕ = value_text item in
    let rest : List (List ℕ) = shown_texts (drop (i + 1) items) in
    let taken = g.W.Sink.taken c.loop-value.sink in
    let shown : not item.hide ≡ true = search rules in
    let opened : shown_texts (drop i items) ≡ text ∷ rest =
    ap shown_texts (one_more items i item item c.loop-value-test.true c.value-item.is) ∙ rw shown refl in
    let written = writes_same _ (joined_after between begun (text ∷ [])) (sym (append-nil (separator between begun ++ text))) c.in_ok-write_value.ensures.written in
    record {
      whole = joined_step between begun c.write_value.new.begun (text ∷ []) rest taken _ _ written.ok
          (c.in_ok-write_value.ensures.begun ∙ sym (or-true begun))
          (ap (λ texts. taken ++ joined_after between begun texts) (sym opened) ∙ c.loop-value.invariant.whole);
      least = let took = ap length written.ok in omega (arith, length-append {A = ℕ}, took, c.loop-value.invariant.least);
      failures = written.failures ∙ c.loop-value.invariant.failures;
    }
