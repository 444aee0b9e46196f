use Rattle.std.proofs.Common.{◌≡◌, ◌∙◌, ◌<◌, ◌++◌, ℕ, List, length, ap, sym, arith}
use Rattle.std.specs.Prelude.{fold}
use Rattle.std.proofs.lemmas.Bool.Decides.{nat_tests}
use Rattle.std.proofs.lemmas.Result.{on_ok_weaker, on_err_weaker}
use Rattle.cc_command.specs.declared.node.Node.{Node}
use Rattle.cc_command.specs.Tree.{Tree, join, forest_of}
use Rattle.cc_command.specs.Made.{with_child, order_after_child, ordered_children}
use Rattle.cc_command.proofs.Forests.{forest_of-append}
use Rattle.cc_command.proofs.PutIn.{refilled}
use Rattle.cc_command.proofs.AddedLists.{changed_tree, added_children}
use Rattle.cc_command.proofs.command.builders.add_children.Goals as goal

pub returns : goal.returns
returns c =
    let node : Node = c.command.inside.node in
    let own : List Tree = c.command.inside.children.items in
    let all : List Tree = c.args.children.items in
    let ordered : List Tree = c.order_children-command-inside.new.children in
    let next : ℕ = c.order_children-command-inside.result in
    let some : 0 < length all = grind (arith, nat_tests, c.is_empty.ensures, c.if-is_empty.false, c.args.children.ok.0) in
    let same : length ordered ≡ c.args.children.len = omega (arith, c.order_children-command-inside.auto.children, c.deref_mut.ensures.len) in
    let full = refilled c.args.children.len all ordered (sym c.args.children.ok.0) same in
    let is_ordered : ordered ≡ ordered_children node.next_order all =
    c.order_children-command-inside.ensures.ordered ∙ ap (ordered_children node.next_order) c.deref_mut.ensures.value in
    let is_next : next ≡ fold order_after_child node.next_order all =
    c.order_children-command-inside.ensures.next ∙ ap (fold order_after_child node.next_order) c.deref_mut.ensures.value in
    record {
      ok = on_ok_weaker c.append_to.result
          (λ appended. ap (λ list. changed_tree node (forest_of list) next) (appended ∙ ap (λ list. own ++ list) (full ∙ is_ordered)) ∙
          ap (λ forest. changed_tree node forest next) (forest_of-append own (ordered_children node.next_order all)) ∙
          ap (changed_tree node (join (forest_of own) (forest_of (ordered_children node.next_order all)))) is_next ∙
          sym (added_children (record { node = node; children = forest_of own }) all some) ∙ ap (λ tree. fold with_child tree all) c.command.view_is)
          c.append_to.ensures.ok;
      err = on_err_weaker c.append_to.result
          (λ kept. ap forest_of kept ∙ ap (λ tree. tree.children) c.command.view_is) c.append_to.ensures.err;
    }
