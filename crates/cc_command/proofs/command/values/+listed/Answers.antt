use Rattle.std.proofs.Common.{◌≡◌, ◌∙◌, ◌++◌, ℕ, List, map, length, take, drop, ap, sym, subst, arith}
use Rattle.cc_command.specs.Marked.{StaysIfMarked}
use Rattle.cc_command.specs.Tree.{Tree, forest_of}
use Rattle.cc_command.specs.ValueLists.{listed_tree}
use Rattle.cc_command.proofs.ListedBuilt.{listed_stays}
use Rattle.cc_command.proofs.PutIn.{refilled}
use Rattle.cc_command.proofs.ValueLists.{listed_parts, tree_of}
use Rattle.cc_command.proofs.command.values.+listed.Goals as goal

-- the fields that were set make the tree with the list
is_listed : (t : ℕ) (c : goal.list_values-After-list_in_node t) →
    tree_of c.list_in_node.new.node (forest_of (take c.command.inside.children.len (c.list_in_all.new.siblings ++ drop (length c.list_in_all.new.siblings) c.command.inside.children.items)))
    ≡ listed_tree c.args.asked.now c.args.values c.args.command.now
is_listed t c =
    let old : List Tree = c.command.inside.children.items in
    let siblings : List Tree = c.list_in_all.new.siblings in
    let same : length siblings ≡ c.command.inside.children.len = omega (arith, c.list_in_all.auto.siblings, c.deref_mut.ensures.len) in
    listed_parts c.args.asked.now c.args.values c.args.command.now c.command.inside.node c.list_in_node.new.node old siblings _
    c.command.view_is c.list_in_node.ensures
    (c.list_in_all.ensures.ok ∙ ap (map (listed_tree c.args.asked.now c.args.values)) c.deref_mut.ensures.value)
    (refilled c.command.inside.children.len old siblings (sym c.command.inside.children.ok.0) same)

pub list_values-invariant_of-command : goal.list_values-invariant_of-command
list_values-invariant_of-command t c =
    listed_stays c.args.asked.now c.args.values c.args.command.now _ (subst StaysIfMarked c.command.view_is c.command.invariant) (is_listed t c)

pub list_values-returns : goal.list_values-returns
list_values-returns t c = is_listed t c
