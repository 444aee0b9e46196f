use Rattle.std.proofs.Common.{drop, flat_map}
use Rattle.cc_bash.specs.Nodes.{part_words}
use Rattle.cc_bash.proofs.WordLoops.{WordsGoOn}
use Rattle.cc_bash.proofs.words.write_part.Given as goal

abbrev pub invariant-loop-argument : goal.invariant-loop-argument
invariant-loop-argument g l = WordsGoOn g.W.Sink.taken g.W.Sink.failed l.initial.sink l.sink l.initial.begun l.begun (flat_map (part_words l.part) l.arguments) (flat_map (part_words l.part) (drop l.argument-index l.arguments))
