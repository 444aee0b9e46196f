use Rattle.std.proofs.Common.{flat_map}
use Rattle.cc_base.proofs.WrittenTexts.{GoesOn}
use Rattle.cc_command.specs.Iterators.{arguments_left}
use Rattle.cc_bash.specs.Arms.{option_details}
use Rattle.cc_bash.specs.Script.{detail_text}
use Rattle.cc_bash.proofs.details.write_details.Given as goal

abbrev pub invariant-loop-option : goal.invariant-loop-option
invariant-loop-option g l = GoesOn g.W.Sink.taken g.W.Sink.failed l.initial.sink l.sink (flat_map detail_text (flat_map option_details (arguments_left l.fn.options))) (flat_map detail_text (flat_map option_details (arguments_left l.option-iterator)))
