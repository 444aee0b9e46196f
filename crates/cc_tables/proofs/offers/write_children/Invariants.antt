use Rattle.std.proofs.Common.{flat_map, drop}
use Rattle.cc_base.proofs.WrittenTexts.{GoesOn}
use Rattle.cc_command.specs.Tree.{forest_of}
use Rattle.cc_tables.specs.Offers.{children_offers}
use Rattle.cc_tables.proofs.offers.write_children.Given as goal

abbrev pub invariant-loop-child : goal.invariant-loop-child
invariant-loop-child g l = GoesOn g.W.Sink.taken g.W.Sink.failed l.initial.sink l.sink (flat_map (g.R.Rows.row_text l.rows) (children_offers (forest_of l.children))) (flat_map (g.R.Rows.row_text l.rows) (children_offers (forest_of (drop l.child-index l.children))))
