use Rattle.std.proofs.Common.{◌≡◌, ◌+◌, ◌∙◌, ◌++◌, ℕ, List, [], ◌∷◌, ap, arith, drop, false, length, length-append, map, refl, rules, sym}
use Rattle.std.proofs.lemmas.List.{append-nil}
use Rattle.std.proofs.Math.Bool.{or-true}
use Rattle.cc_base.proofs.JoinedTexts.{joined_step}
use Rattle.cc_base.proofs.Lists.{one_more}
use Rattle.cc_base.proofs.WrittenTexts.{writes_same}
use Rattle.cc_base.specs.Joined.{joined_after, separator}
use Rattle.cc_zsh.specs.Values.{item_separator, item_text, shown_values}
use Rattle.cc_zsh.proofs.values.write_items.Goals as goal

pub loop-value-preserved : goal.loop-value-preserved
loop-value-preserved g c =
    let items = c.args.values.now in
    let i = c.loop-value.value-index in
    let item = c.value-item.result in
    let begun = c.loop-value.begun in
    let between : List ℕ = item_separator c.args.form in
    let text : List ℕ = item_text c.args.form item in
    let rest : List (List ℕ) = map (item_text c.args.form) (shown_values (drop (i + 1) items)) in
    let taken = g.W.Sink.taken c.loop-value.sink in
    let shown : item.hide ≡ false = search rules in
    let opened : map (item_text c.args.form) (shown_values (drop i items)) ≡ text ∷ rest =
    ap (λ values. map (item_text c.args.form) (shown_values values)) (one_more items i item item c.loop-value-test.true c.value-item.is) ∙ rw shown refl in
    let written = writes_same _ (joined_after between begun (text ∷ [])) (sym (append-nil (separator between begun ++ text))) c.in_ok-write_item.ensures.written in
    record {
      whole = joined_step between begun c.write_item.new.begun (text ∷ []) rest taken _ _ written.ok
          (c.in_ok-write_item.ensures.begun ∙ sym (or-true begun))
          (ap (λ texts. taken ++ joined_after between begun texts) (sym opened) ∙ c.loop-value.invariant.whole);
      least = let took = ap length written.ok in omega (arith, length-append {A = ℕ}, took, c.loop-value.invariant.least);
      failures = written.failures ∙ c.loop-value.invariant.failures;
    }
