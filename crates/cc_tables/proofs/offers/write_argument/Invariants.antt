use Rattle.std.proofs.Common.{flat_map, map}
use Rattle.cc_base.proofs.WrittenTexts.{GoesOn}
use Rattle.cc_arg.specs.ShownNames.{names_left}
use Rattle.cc_tables.specs.Offers.{argument_offer, argument_offers}
use Rattle.cc_tables.proofs.offers.write_argument.Given as goal

abbrev pub invariant-loop-name : goal.invariant-loop-name
invariant-loop-name g l = GoesOn g.W.Sink.taken g.W.Sink.failed l.initial.sink l.sink (flat_map (g.R.Rows.row_text l.rows) (argument_offers l.argument)) (flat_map (g.R.Rows.row_text l.rows) (map (argument_offer l.argument) (names_left l.name-iterator)))
