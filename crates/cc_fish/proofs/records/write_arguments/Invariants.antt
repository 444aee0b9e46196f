use Rattle.std.proofs.Common.{flat_map}
use Rattle.cc_base.proofs.WrittenTexts.{GoesOn}
use Rattle.cc_command.specs.Iterators.{arguments_left}
use Rattle.cc_fish.specs.Script.{argument_text}
use Rattle.cc_fish.proofs.records.write_arguments.Given as goal

abbrev pub invariant-loop-argument : goal.invariant-loop-argument
invariant-loop-argument g l = GoesOn g.W.Sink.taken g.W.Sink.failed l.initial.sink l.sink (flat_map (argument_text l.front l.takes) (arguments_left l.fn.arguments)) (flat_map (argument_text l.front l.takes) (arguments_left l.argument-iterator))
