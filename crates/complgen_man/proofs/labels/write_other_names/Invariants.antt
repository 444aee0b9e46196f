use Rattle.std.proofs.Common.{drop, flat_map}
use Rattle.cc_base.proofs.WrittenTexts.{GoesOn}
use Rattle.complgen_man.specs.Page.{further_value}
use Rattle.complgen_man.proofs.labels.write_other_names.Given as goal

abbrev pub invariant-loop-name : goal.invariant-loop-name
invariant-loop-name g l = GoesOn g.W.Sink.taken g.W.Sink.failed l.initial.sink l.sink (flat_map further_value l.names) (flat_map further_value (drop l.name-index l.names))
