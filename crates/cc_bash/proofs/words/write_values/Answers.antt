use Rattle.std.proofs.Common.{◌+◌, ◌∙◌, ◌++◌, [], ◌∷◌, ap, codes, drop, sym}
use Rattle.std.proofs.Math.Bool.{or-true}
use Rattle.cc_base.proofs.Lists.{one_more}
use Rattle.cc_base.proofs.WrittenTexts.{writes_same}
use Rattle.cc_base.specs.Joined.{separator}
use Rattle.cc_bash.specs.Arms.{names_of_values}
use Rattle.cc_bash.proofs.WordLoops.{word_written, words_step}
use Rattle.cc_bash.proofs.words.write_values.Goals as goal

pub loop-value-preserved : goal.loop-value-preserved
loop-value-preserved g c =
    let items = c.args.possible.now in
    let i = c.loop-value.value-index in
    let item = c.value-item.result in
    let begun = c.loop-value.begun in
    words_step _ _ _ _ (item.name ∷ []) (names_of_values (drop (i + 1) items)) (ap names_of_values (one_more items i item item c.loop-value-test.true c.value-item.is)) c.loop-value.invariant (word_written begun item.name (writes_same _ _ (ap (λ name. separator (codes " ") begun ++ name) c.get_name.ensures) c.in_ok-put_word.ensures.written)) (c.in_ok-put_word.ensures.begun ∙ sym (or-true begun))
