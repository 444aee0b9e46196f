use Rattle.std.proofs.Common.{◌≡◌, ◌∙◌, [], ◌∷◌, rules, sym}
use Rattle.std.proofs.Math.Bool.{or-true}
use Rattle.cc_command.specs.Iterators.{names_left}
use Rattle.cc_command.specs.Names.{visible_names}
use Rattle.cc_bash.proofs.WordLoops.{WordsGoOn, word_written, words_step}
use Rattle.cc_bash.proofs.words.write_names.Goals as goal

pub loop-name-preserved : goal.loop-name-preserved
loop-name-preserved g c =
    let name = c.in-Some.name.now in
    let rest = names_left c.next.new.self in
    let begun = c.loop-name.begun in
    let started = c.args.begun.now in
    let all = visible_names c.args.command.now.node in
    let left : names_left c.loop-name.name-iterator ≡ name ∷ rest = search rules in
    let goes : WordsGoOn g.W.Sink.taken g.W.Sink.failed c.args.sink.now c.loop-name.sink started begun all (names_left c.loop-name.name-iterator) = record {
      written = c.loop-name.invariant.written;
      least = c.loop-name.invariant.least;
      begun = c.loop-name.invariant.begun ∙ sym (or-true started);
      failures = c.loop-name.invariant.failures;
    } in
    let step = words_step started begun all _ (name ∷ []) rest left goes (word_written begun name c.in_ok-put_word.ensures.written) (c.in_ok-put_word.ensures.begun ∙ sym (or-true begun)) in
    record {
      written = step.written;
      least = step.least;
      begun = step.begun ∙ or-true started;
      failures = step.failures;
    }
