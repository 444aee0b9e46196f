use Rattle.std.proofs.Common.{◌≡◌, ◌+◌, ◌∙◌, ◌++◌, ℕ, List, [], ◌∷◌, ap, codes, drop, map, rules, sym}
use Rattle.std.proofs.Math.Bool.{or-true}
use Rattle.cc_base.proofs.Lists.{one_more}
use Rattle.cc_base.proofs.WrittenTexts.{writes_same}
use Rattle.cc_base.specs.Joined.{separator}
use Rattle.cc_generator.specs.ArgumentNames.{long_word}
use Rattle.cc_bash.proofs.WordLoops.{word_written, words_step}
use Rattle.cc_bash.proofs.words.write_long_words.Goals as goal

pub loop-alias-preserved : goal.loop-alias-preserved
loop-alias-preserved g c =
    let items = c.get_visible_aliases-alias-items.result.now in
    let i = c.loop-alias.alias-index in
    let item = c.alias-item.result in
    let begun = c.loop-alias.begun in
    let words : List (List ℕ) → List (List ℕ) = λ aliases. map long_word (aliases ++ c.in-Some.long.now ∷ []) in
    let named : c.as_str.result.now ≡ item = search rules in
    words_step _ _ _ _ (long_word item ∷ []) (words (drop (i + 1) items)) (ap words (one_more items i item item c.loop-alias-test.true c.alias-item.is)) c.loop-alias.invariant (word_written begun (long_word item) (writes_same _ _ (ap (λ name. separator (codes " ") begun ++ (codes "--" ++ name)) named) c.in_ok-put_word.ensures.written)) (c.in_ok-put_word.ensures.begun ∙ sym (or-true begun))
