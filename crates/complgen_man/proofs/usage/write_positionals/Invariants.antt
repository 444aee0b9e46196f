use Rattle.std.proofs.Common.{drop, filter, flat_map}
use Rattle.cc_base.proofs.WrittenTexts.{GoesOn}
use Rattle.complgen_man.specs.Page.{is_shown_positional, spaced_values}
use Rattle.complgen_man.proofs.usage.write_positionals.Given as goal

abbrev pub invariant-loop-argument : goal.invariant-loop-argument
invariant-loop-argument g l = GoesOn g.W.Sink.taken g.W.Sink.failed l.initial.sink l.sink (flat_map spaced_values (filter is_shown_positional l.arguments)) (flat_map spaced_values (filter is_shown_positional (drop l.argument-index l.arguments)))
