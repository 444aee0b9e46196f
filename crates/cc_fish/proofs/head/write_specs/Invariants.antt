use Rattle.std.proofs.Common.{drop, flat_map, filter, not}
use Rattle.cc_base.proofs.WrittenTexts.{GoesOn}
use Rattle.cc_arg.specs.Arguments.{is_positional}
use Rattle.cc_fish.specs.Script.{spec_text}
use Rattle.cc_fish.proofs.head.write_specs.Given as goal

abbrev pub invariant-loop-argument : goal.invariant-loop-argument
invariant-loop-argument g l = GoesOn g.W.Sink.taken g.W.Sink.failed l.initial.sink l.sink (flat_map spec_text (filter (λ argument. not (is_positional argument)) l.arguments)) (flat_map spec_text (filter (λ argument. not (is_positional argument)) (drop l.argument-index l.arguments)))
