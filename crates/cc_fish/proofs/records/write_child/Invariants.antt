use Rattle.std.proofs.Common.{flat_map}
use Rattle.cc_base.proofs.WrittenTexts.{GoesOn}
use Rattle.cc_command.specs.Iterators.{names_left}
use Rattle.cc_command.specs.Names.{visible_names}
use Rattle.cc_fish.specs.Script.{child_text}
use Rattle.cc_fish.proofs.records.write_child.Given as goal

abbrev pub invariant-loop-name : goal.invariant-loop-name
invariant-loop-name g l = GoesOn g.W.Sink.taken g.W.Sink.failed l.initial.sink l.sink (flat_map (child_text l.front l.no_files l.child.node.about) (visible_names l.child.node)) (flat_map (child_text l.front l.no_files l.child.node.about) (names_left l.name-iterator))
