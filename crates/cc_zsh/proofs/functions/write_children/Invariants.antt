use Rattle.std.proofs.Common.{drop, flat_map}
use Rattle.cc_base.proofs.WrittenTexts.{GoesOn}
use Rattle.cc_command.specs.Tree.{forest_of}
use Rattle.cc_zsh.specs.Functions.{entries_of, entry_text}
use Rattle.cc_zsh.proofs.functions.write_children.Given as goal

abbrev pub invariant-loop-child : goal.invariant-loop-child
invariant-loop-child g l = GoesOn g.W.Sink.taken g.W.Sink.failed l.initial.sink l.sink (flat_map entry_text (entries_of (forest_of l.children))) (flat_map entry_text (entries_of (forest_of (drop l.child-index l.children))))
