use Rattle.std.proofs.Common.{drop}
use Rattle.cc_bash.specs.Arms.{names_of_values}
use Rattle.cc_bash.proofs.WordLoops.{WordsGoOn}
use Rattle.cc_bash.proofs.words.write_values.Given as goal

abbrev pub invariant-loop-value : goal.invariant-loop-value
invariant-loop-value g l = WordsGoOn g.W.Sink.taken g.W.Sink.failed l.initial.sink l.sink l.initial.begun l.begun (names_of_values l.possible) (names_of_values (drop l.value-index l.possible))
