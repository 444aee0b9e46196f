use Rattle.std.proofs.Common.{◌≡◌, ◌≤◌, ◌+◌, OnOk, List, [], ◌∷◌, ◌++◌, Some, length, take, ap, ◌∙◌, subst, sym, arith, rules}
use denote.Param.Weighed.{most}
use Rattle.cc_command.specs.declared.command.Command.TheDeep.{size-Command}
use Rattle.std.proofs.lemmas.List.{take_more, take_all}
use Rattle.std.proofs.lemmas.Result.{on_ok_weaker}
use Rattle.cc_command.specs.Tree.{Tree, forest_of, forest_size, none, tree_size}
use Rattle.cc_command.specs.Names.{full_name, joined_name}
use Rattle.cc_command.specs.Built.{globals}
use Rattle.cc_command.specs.Additions.{IsAddition, AreAfter, AreOfTreeAfter}
use Rattle.cc_command.proofs.PutIn.{forest_of-none, AreAfter-none, AreAfter-push, AreOfTreeAfter-of, AreOfTreeAfter-leaf}
use Rattle.cc_command.proofs.command.+additions.Goals as goal

pub Command::push_additions-returns-then-is_empty : goal.Command::push_additions-returns-then-is_empty
Command::push_additions-returns-then-is_empty t c =
    let tree : Tree = c.args.self.now in
    let own : IsAddition c.args.inherited.now c.args.bin_name tree.node tree.children c.in_ok-addition.addition = search rules in
    let empty : length c.self.inside.children.items ≡ 0 = search rules in
    let leaf : tree.children ≡ none = sym (ap (λ (tree : Tree). tree.children) c.self.view_is) ∙ forest_of-none c.self.inside.children.items empty in
    record { ok = AreOfTreeAfter-leaf c.args.inherited.now c.args.bin_name tree c.in_ok-addition.addition c.args.additions.now.items c.push.new.self.items own leaf c.in_ok-push.ensures.items }

pub Command::push_additions-returns : goal.Command::push_additions-returns
Command::push_additions-returns t c =
    let tree : Tree = c.args.self.now in
    let own : IsAddition c.args.inherited.now c.args.bin_name tree.node tree.children c.in_ok-addition.addition = search rules in
    let passes : c.in_ok-globals.globals.items ≡ globals (tree.node.arguments ++ c.in_ok-addition.addition.arguments.items) = search rules in
    let named : c.in_ok-name.name ≡ full_name (record tree.node { bin_name = c.in_ok-addition.addition.bin_name }) = search rules in
    let below : OnOk c.push_additions_to.result (AreAfter c.in_ok-globals.globals.items c.in_ok-name.name tree.children c.push-2.new.self.items c.push_additions_to.new.additions.items) = search rules in
    record {
      ok = on_ok_weaker c.push_additions_to.result
          (AreOfTreeAfter-of c.args.inherited.now c.args.bin_name tree c.in_ok-addition.addition c.args.additions.now.items c.push-2.new.self.items c.push_additions_to.new.additions.items
          c.in_ok-globals.globals.items c.in_ok-name.name own passes named c.in_ok-push-2.ensures.items)
          below;
    }

pub build::push_additions_to-loop-sibling-init : goal.build::push_additions_to-loop-sibling-init
build::push_additions_to-loop-sibling-init t c =
    subst (AreAfter c.args.inherited.now c.args.parent.now none c.args.additions.now.items) (sym c.in_ok-reserve.ensures.items)
    (AreAfter-none c.args.inherited.now c.args.parent.now c.args.additions.now.items)

pub build::push_additions_to-loop-sibling-preserved : goal.build::push_additions_to-loop-sibling-preserved
build::push_additions_to-loop-sibling-preserved t c =
    let siblings : List Tree = c.args.siblings.now in
    let sibling : Tree = c.sibling-item.result in
    let next : take (c.loop-sibling.sibling-index + 1) siblings ≡ take c.loop-sibling.sibling-index siblings ++ sibling ∷ [] =
    rw c.sibling-item.is (take_more siblings c.loop-sibling.sibling-index sibling c.loop-sibling-test.true) in
    let one : AreOfTreeAfter c.args.inherited.now (Some (joined_name c.args.parent.now sibling.node.name)) sibling c.loop-sibling.additions.items c.push_additions.new.additions.items = search rules in
    subst (λ trees. AreAfter c.args.inherited.now c.args.parent.now (forest_of trees) c.args.additions.now.items c.push_additions.new.additions.items) (sym next)
    (AreAfter-push c.args.inherited.now c.args.parent.now (take c.loop-sibling.sibling-index siblings) sibling c.args.additions.now.items c.loop-sibling.additions.items c.push_additions.new.additions.items
    c.loop-sibling.invariant one)

pub build::push_additions_to-returns : goal.build::push_additions_to-returns
build::push_additions_to-returns t c =
    let all : take c.loop-sibling.sibling-index c.args.siblings.now ≡ c.args.siblings.now = take_all c.loop-sibling.sibling-index c.args.siblings.now (omega arith) in
    record { ok = subst (λ trees. AreAfter c.args.inherited.now c.args.parent.now (forest_of trees) c.args.additions.now.items c.loop-sibling.additions.items) all c.loop-sibling.invariant }

-- each tree is smaller than the forest of all trees, by the size that recursion counts with
smaller_all : (trees : List Tree) → most size-Command trees ≤ forest_size (forest_of trees)
smaller_all [] = omega arith
smaller_all (tree ∷ trees) = omega (arith, smaller_all trees)

pub Command::push_additions-push_additions_to-requires : goal.Command::push_additions-push_additions_to-requires
Command::push_additions-push_additions_to-requires t c =
    let children : List Tree = c.deref.result.now in
    let is : forest_size (forest_of children) ≡ tree_size c.args.self.now =
    ap (λ trees. forest_size (forest_of trees)) c.deref.ensures.value ∙ ap tree_size c.self.view_is in
    (omega (arith, smaller_all children, is), tt)
