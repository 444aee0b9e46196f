use Rattle.std.proofs.Common.{drop, filter, flat_map}
use Rattle.cc_base.proofs.WrittenTexts.{GoesOn}
use Rattle.complgen_man.specs.Page.{argument_text, is_shown_option}
use Rattle.complgen_man.proofs.arguments.write_options.Given as goal

abbrev pub invariant-loop-argument : goal.invariant-loop-argument
invariant-loop-argument g l = GoesOn g.W.Sink.taken g.W.Sink.failed l.initial.sink l.sink (flat_map argument_text (filter is_shown_option l.arguments)) (flat_map argument_text (filter is_shown_option (drop l.argument-index l.arguments)))
