use Rattle.std.proofs.Common.{drop}
use Rattle.cc_base.proofs.WrittenTexts.{GoesOn}
use Rattle.cc_command.specs.Tree.{forest_of}
use Rattle.cc_fish.specs.Script.{children_text}
use Rattle.cc_fish.proofs.records.write_children.Given as goal

abbrev pub invariant-loop-child : goal.invariant-loop-child
invariant-loop-child g l = GoesOn g.W.Sink.taken g.W.Sink.failed l.initial.sink l.sink (children_text l.front l.no_files (forest_of l.children)) (children_text l.front l.no_files (forest_of (drop l.child-index l.children)))
