use Rattle.std.proofs.Common.{codes, drop, filter, map}
use Rattle.cc_base.proofs.WrittenTexts.{GoesOn}
use Rattle.cc_base.specs.Joined.{joined, joined_after}
use Rattle.complgen_man.specs.Page.{is_shown_value, possible_text}
use Rattle.complgen_man.proofs.arguments.write_values.Given as goal

abbrev pub invariant-loop-value : goal.invariant-loop-value
invariant-loop-value g l = GoesOn g.W.Sink.taken g.W.Sink.failed l.initial.sink l.sink (joined (codes ", ") (map possible_text (filter is_shown_value l.values))) (joined_after (codes ", ") l.begun (map possible_text (filter is_shown_value (drop l.value-index l.values))))
