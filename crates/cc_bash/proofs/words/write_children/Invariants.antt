use Rattle.std.proofs.Common.{drop}
use Rattle.cc_command.specs.Tree.{forest_of}
use Rattle.cc_generator.specs.Subcommands.{sibling_names}
use Rattle.cc_bash.proofs.WordLoops.{WordsGoOn}
use Rattle.cc_bash.proofs.words.write_children.Given as goal

abbrev pub invariant-loop-child : goal.invariant-loop-child
invariant-loop-child g l = WordsGoOn g.W.Sink.taken g.W.Sink.failed l.initial.sink l.sink l.initial.begun l.begun (sibling_names (forest_of l.children)) (sibling_names (forest_of (drop l.child-index l.children)))
