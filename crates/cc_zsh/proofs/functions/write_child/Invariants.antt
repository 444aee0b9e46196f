use Rattle.std.proofs.Common.{flat_map, map}
use Rattle.cc_base.proofs.WrittenTexts.{GoesOn}
use Rattle.cc_command.specs.Iterators.{names_left}
use Rattle.cc_command.specs.Names.{visible_names}
use Rattle.cc_zsh.specs.Functions.{entry, entry_text}
use Rattle.cc_zsh.proofs.functions.write_child.Given as goal

abbrev pub invariant-loop-name : goal.invariant-loop-name
invariant-loop-name g l = GoesOn g.W.Sink.taken g.W.Sink.failed l.initial.sink l.sink (flat_map entry_text (map (entry l.child.node) (visible_names l.child.node))) (flat_map entry_text (map (entry l.child.node) (names_left l.name-iterator)))
