use Rattle.std.proofs.Common.{◌≡◌, ◌+◌, ◌∙◌, ◌++◌, ℕ, [], ◌∷◌, ap, arith, codes, drop, false, length, length-append, refl, rules, sym}
use Rattle.std.proofs.Math.Bool.{or-true}
use Rattle.cc_base.proofs.JoinedTexts.{joined_step}
use Rattle.cc_base.proofs.Lists.{one_more}
use Rattle.cc_base.proofs.WrittenTexts.{writes_same}
use Rattle.cc_base.specs.Joined.{separator}
use Rattle.cc_bash.specs.Arms.{names_of_shown}
use Rattle.cc_bash.specs.Words.{words_after}
use Rattle.cc_bash.proofs.WordLoops.{word_written}
use Rattle.cc_bash.proofs.words.write_shown_values.Goals as goal

pub loop-value-preserved : goal.loop-value-preserved
loop-value-preserved g c =
    let items = c.args.possible.now in
    let i = c.loop-value.value-index in
    let item = c.value-item.result in
    let begun = c.loop-value.begun in
    let rest = names_of_shown (drop (i + 1) items) in
    let taken = g.W.Sink.taken c.loop-value.sink in
    let shown : item.hide ≡ false = search rules in
    let opened : names_of_shown (drop i items) ≡ item.name ∷ rest = ap names_of_shown (one_more items i item item c.loop-value-test.true c.value-item.is) ∙ rw shown refl in
    let word = word_written begun item.name (writes_same _ _ (ap (λ name. separator (codes " ") begun ++ name) c.get_name.ensures) c.in_ok-put_word.ensures.written) in
    record {
      whole = joined_step (codes " ") begun c.put_word.new.begun (item.name ∷ []) rest taken _ _ word.ok
          (c.in_ok-put_word.ensures.begun ∙ sym (or-true begun))
          (ap (λ words. taken ++ words_after begun words) (sym opened) ∙ c.loop-value.invariant.whole);
      least = let took = ap length word.ok in omega (arith, length-append {A = ℕ}, took, c.loop-value.invariant.least);
      failures = word.failures ∙ c.loop-value.invariant.failures;
    }
