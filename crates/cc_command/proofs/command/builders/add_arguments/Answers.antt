use Rattle.std.proofs.Common.{◌≡◌, ◌∙◌, ◌<◌, ◌++◌, ℕ, List, length, ap, sym, arith}
use Rattle.std.specs.Prelude.{fold}
use Rattle.std.proofs.lemmas.Bool.Decides.{nat_tests}
use Rattle.std.proofs.lemmas.Result.{on_ok_weaker, on_err_weaker}
use Rattle.cc_arg.specs.declared.parts.ArgParts.{ArgParts as Arg}
use Rattle.cc_command.specs.declared.node.Node.{Node}
use Rattle.cc_command.specs.Made.{order_after, ordered_arguments}
use Rattle.cc_command.proofs.PutIn.{refilled}
use Rattle.cc_command.proofs.AddedLists.{changed_node, added_arguments}
use Rattle.cc_command.proofs.command.builders.add_arguments.Goals as goal

pub returns : goal.returns
returns c =
    let node : Node = c.args.node.now in
    let all : List Arg = c.args.arguments.items in
    let ordered : List Arg = c.order_arguments-node.new.arguments in
    let next : ℕ = c.order_arguments-node.result in
    let some : 0 < length all = grind (arith, nat_tests, c.is_empty.ensures, c.if-is_empty.false, c.args.arguments.ok.0) in
    let same : length ordered ≡ c.args.arguments.len = omega (arith, c.order_arguments-node.auto.arguments, c.deref_mut.ensures.len) in
    let full = refilled c.args.arguments.len all ordered (sym c.args.arguments.ok.0) same in
    let is_ordered : ordered ≡ ordered_arguments node.next_order all =
    c.order_arguments-node.ensures.ordered ∙ ap (ordered_arguments node.next_order) c.deref_mut.ensures.value in
    let is_next : next ≡ fold order_after node.next_order all =
    c.order_arguments-node.ensures.next ∙ ap (fold order_after node.next_order) c.deref_mut.ensures.value in
    record {
      ok = on_ok_weaker c.append_arguments.result
          (λ appended. appended ∙ ap (λ list. changed_node node (node.arguments ++ list) next) (full ∙ is_ordered) ∙
          ap (changed_node node (node.arguments ++ ordered_arguments node.next_order all)) is_next ∙ sym (added_arguments node all some))
          c.append_arguments.ensures.ok;
      err = on_err_weaker c.append_arguments.result
          (λ kept. kept ∙ ap (changed_node node node.arguments) is_next) c.append_arguments.ensures.err;
    }
