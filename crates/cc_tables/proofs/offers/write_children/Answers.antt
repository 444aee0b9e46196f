use Rattle.std.proofs.Common.{◌+◌, drop, flat_map}
use Rattle.std.proofs.lemmas.List.Concat.{flat_map-append}
use Rattle.std.proofs.lemmas.Result.{err_from_is_err_and}
use Rattle.cc_command.specs.Tree.{forest_of}
use Rattle.cc_base.proofs.Stopped.{stops_at}
use Rattle.cc_tables.specs.Offers.{child_offers, children_offers}
use Rattle.cc_tables.proofs.offers.write_children.Goals as goal

pub returns-in_err-write_child : goal.returns-in_err-write_child
returns-in_err-write_child g c =
    let p = err_from_is_err_and c.from_residual.result c.from_residual.ensures.1 in
    let row = g.R.Rows.row_text c.args.rows.now in
    let items = c.args.children.now in
    let i = c.loop-child.child-index in
    let item = c.child-item.result in
    rw (p.1, p.2) (stops_at (λ commands. flat_map row (children_offers (forest_of commands))) items i item _ c.loop-child-test.true c.child-item.is (flat_map-append row (child_offers item.node) (children_offers (forest_of (drop (i + 1) items)))) c.loop-child.invariant c.in_err-write_child.ensures)
