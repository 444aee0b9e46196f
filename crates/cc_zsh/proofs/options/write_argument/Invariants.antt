use Rattle.std.proofs.Common.{flat_map}
use Rattle.cc_base.proofs.WrittenTexts.{GoesOn}
use Rattle.cc_arg.specs.ShownNames.{names_left, shown_names}
use Rattle.cc_zsh.specs.Options.{argument_line}
use Rattle.cc_zsh.proofs.options.write_argument.Given as goal

abbrev pub invariant-loop-name : goal.invariant-loop-name
invariant-loop-name g l = GoesOn g.W.Sink.taken g.W.Sink.failed l.initial.sink l.sink (flat_map (argument_line l.above.node l.command.node l.argument) (shown_names l.argument)) (flat_map (argument_line l.above.node l.command.node l.argument) (names_left l.name-iterator))
