use Rattle.std.proofs.Common.{◌+◌, ◌∙◌, ◌++◌, ℕ, List, [], ◌∷◌, ap, drop, map, sym}
use Rattle.std.proofs.Math.Bool.{or-true}
use Rattle.cc_base.proofs.Lists.{one_more}
use Rattle.cc_generator.specs.ArgumentNames.{short_word}
use Rattle.cc_bash.proofs.WordLoops.{word_written, words_step}
use Rattle.cc_bash.proofs.words.write_short_words.Goals as goal

pub loop-alias-preserved : goal.loop-alias-preserved
loop-alias-preserved g c =
    let items = c.get_visible_short_aliases-alias-items.result.now in
    let i = c.loop-alias.alias-index in
    let item = c.alias-item.result in
    let begun = c.loop-alias.begun in
    let words : List ℕ → List (List ℕ) = λ aliases. map short_word (aliases ++ c.in-Some.short ∷ []) in
    words_step _ _ _ _ (short_word item ∷ []) (words (drop (i + 1) items)) (ap words (one_more items i item item c.loop-alias-test.true c.alias-item.is)) c.loop-alias.invariant (word_written begun (short_word item) c.in_ok-write_short_word.ensures.written) (c.in_ok-write_short_word.ensures.begun ∙ sym (or-true begun))
