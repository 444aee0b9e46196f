use Rattle.std.proofs.Common.{codes, map}
use Rattle.cc_base.proofs.WrittenTexts.{GoesOn}
use Rattle.cc_arg.specs.ShownNames.{names_left, shown_names}
use Rattle.cc_base.specs.Joined.{joined, joined_after}
use Rattle.complgen_man.specs.Page.{name_text}
use Rattle.complgen_man.proofs.labels.write_names.Given as goal

abbrev pub invariant-loop-name : goal.invariant-loop-name
invariant-loop-name g l = GoesOn g.W.Sink.taken g.W.Sink.failed l.initial.sink l.sink (joined (codes ", ") (map name_text (shown_names l.argument))) (joined_after (codes ", ") l.begun (map name_text (names_left l.name-iterator)))
