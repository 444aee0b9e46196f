use Rattle.std.proofs.Common.{drop}
use Rattle.cc_base.proofs.WrittenTexts.{GoesOn}
use Rattle.cc_bash.specs.Arms.{names_of_shown}
use Rattle.cc_bash.specs.Words.{words_after, words_text}
use Rattle.cc_bash.proofs.words.write_shown_values.Given as goal

abbrev pub invariant-loop-value : goal.invariant-loop-value
invariant-loop-value g l = GoesOn g.W.Sink.taken g.W.Sink.failed l.initial.sink l.sink (words_text (names_of_shown l.possible)) (words_after l.begun (names_of_shown (drop l.value-index l.possible)))
