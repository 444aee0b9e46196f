use Rattle.std.proofs.Common.{drop, flat_map}
use Rattle.cc_base.proofs.WrittenTexts.{GoesOn}
use Rattle.cc_env.specs.RunWords.{written_word}
use Rattle.cc_env.proofs.asking.writing.put_words.Given as goal

abbrev pub invariant-loop-word : goal.invariant-loop-word
invariant-loop-word g l =
    GoesOn g.W.Sink.taken g.W.Sink.failed l.initial.out l.out (flat_map written_word l.words)
    (flat_map written_word (drop l.word-index l.words))
