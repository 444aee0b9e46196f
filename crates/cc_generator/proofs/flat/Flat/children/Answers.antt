use Rattle.std.proofs.Common.{arith, ◌≡◌, ◌<◌, List, length, ap}
use Rattle.std.proofs.lemmas.List.{length-map}
use Rattle.cc_generator.specs.declared.flat.FlatNode.{FlatNode}
use Rattle.cc_generator.specs.Flat.{entry_of, entries_of, entry_at, HasItsChildren}
use Rattle.cc_generator.proofs.Numbers.{entry_at-stored}
use Rattle.cc_generator.proofs.flat.Flat.children.Goals as goal

pub overflow_add-result : goal.overflow_add-result
overflow_add-result c =
    let nodes : List FlatNode = c.self.inside.nodes.items in
    let same : length (entries_of nodes) ≡ length nodes = length-map nodes entry_of in
    let inside : c.args.number < length nodes = omega (arith, same, ap length c.self.view_is) in
    let here : entry_at (entries_of nodes) c.args.number ≡ entry_of c.index-node.result.now = entry_at-stored nodes c.args.number c.index-node.result.now inside c.index-node.ensures in
    let its : HasItsChildren (entries_of nodes) c.args.number = c.self.invariant.children c.args.number (omega arith) in
    omega (arith, ap (λ e. e.first_child) here, ap (λ e. e.child_count) here, its.within, same, c.self.inside.nodes.ok.0, c.self.inside.nodes.small)
