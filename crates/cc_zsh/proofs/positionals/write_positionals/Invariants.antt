use Rattle.std.proofs.Common.{false, flat_map}
use Rattle.cc_base.proofs.WrittenTexts.{GoesOn}
use Rattle.cc_command.specs.ArgumentLists.{positionals}
use Rattle.cc_command.specs.Iterators.{arguments_left}
use Rattle.cc_zsh.specs.Positionals.{positional_text, shown_positionals}
use Rattle.cc_zsh.proofs.positionals.write_positionals.Given as goal

abbrev pub invariant-loop-positional : goal.invariant-loop-positional
invariant-loop-positional g l = GoesOn g.W.Sink.taken g.W.Sink.failed l.initial.sink l.sink (flat_map (positional_text l.has_children) (shown_positionals l.has_children false (positionals l.command.node))) (flat_map (positional_text l.has_children) (shown_positionals l.has_children l.taken (arguments_left l.positional-iterator)))
