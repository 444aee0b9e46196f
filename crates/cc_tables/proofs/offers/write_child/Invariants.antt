use Rattle.std.proofs.Common.{flat_map, map}
use Rattle.cc_base.proofs.WrittenTexts.{GoesOn}
use Rattle.cc_command.specs.Iterators.{names_left}
use Rattle.cc_tables.specs.Offers.{child_offer, child_offers}
use Rattle.cc_tables.proofs.offers.write_child.Given as goal

abbrev pub invariant-loop-name : goal.invariant-loop-name
invariant-loop-name g l = GoesOn g.W.Sink.taken g.W.Sink.failed l.initial.sink l.sink (flat_map (g.R.Rows.row_text l.rows) (child_offers l.child.node)) (flat_map (g.R.Rows.row_text l.rows) (map (child_offer l.child.node) (names_left l.name-iterator)))
