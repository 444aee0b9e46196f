use Rattle.std.proofs.Common.{◌≡◌, ◌∙◌, ℕ, ◌<◌, ◌≤◌, ◌≢◌, List, ◌∷◌, ◌++◌, length, get_or, le_refl, ap, sym, subst, refl, arith, rules, length-set, get_or-set_other}
use denote.Param.Weighed.{most, at_most}
use Rattle.std.specs.Vec.Iter.{into_iter_items}
use Rattle.cc_command.specs.declared.command.build.additions.Addition.{Addition}
use Rattle.cc_command.specs.declared.command.Command.TheDeep.{size-Command}
use Rattle.cc_command.specs.Tree.{Tree, forest_of, tree_size}
use Rattle.cc_command.specs.Additions.{sibling_count, AreBuiltBy, IsBuiltBy}
use Rattle.cc_command.proofs.PutIn.{sibling_count-forest_of, refilled, IsBuiltBy-fields, stays, children_room, IsPutUpTo-set, IsPutUpTo-all, SuitTree-next}
use Rattle.cc_command.proofs.command.+built.Goals as goal

pub Command::put_in-put_before-requires : goal.Command::put_in-put_before-requires
Command::put_in-put_before-requires t c =
    let addition : Addition = c.unwrap-addition.result in
    let old : List Tree = c.self.inside.children.items in
    let siblings : List Tree = c.put_in_all.new.siblings in
    let listed : into_iter_items c.args.additions.now ≡ addition ∷ into_iter_items c.next.new.self = search rules in
    let same : length siblings ≡ c.self.inside.children.len = omega (arith, c.put_in_all.auto.siblings, c.deref_mut.ensures.len) in
    let full = refilled c.self.inside.children.len old siblings (sym c.self.inside.children.ok.0) same in
    record {
      room = children_room c.args.self.now (into_iter_items c.args.additions.now) addition (into_iter_items c.next.new.self) _ c.requires.suit listed
          (sym (ap (λ (tree : Tree). sibling_count tree.children) c.self.view_is) ∙ sibling_count-forest_of old ∙ sym c.self.inside.children.ok.0 ∙ sym same ∙ sym (ap length full));
    }

-- the fields that were set make a tree that is built by its additions
is_built : (t : ℕ) (c : goal.Command::put_in-After-finish t) →
    IsBuiltBy c.args.self.now (into_iter_items c.args.additions.now) (record { node = c.finish.new.node; children = forest_of c.put_before.new.items.items }) (into_iter_items c.put_in_all.new.additions)
is_built t c =
    let addition : Addition = c.unwrap-addition.result in
    let old : List Tree = c.self.inside.children.items in
    let siblings : List Tree = c.put_in_all.new.siblings in
    let listed : into_iter_items c.args.additions.now ≡ addition ∷ into_iter_items c.next.new.self = search rules in
    let same : length siblings ≡ c.self.inside.children.len = omega (arith, c.put_in_all.auto.siblings, c.deref_mut.ensures.len) in
    let full = refilled c.self.inside.children.len old siblings (sym c.self.inside.children.ok.0) same in
    let below : AreBuiltBy (forest_of old) (into_iter_items c.next.new.self) (forest_of siblings) (into_iter_items c.put_in_all.new.additions) =
    subst (λ trees. AreBuiltBy (forest_of trees) (into_iter_items c.next.new.self) (forest_of siblings) (into_iter_items c.put_in_all.new.additions)) c.deref_mut.ensures.value c.put_in_all.ensures.ok in
    IsBuiltBy-fields c.args.self.now (into_iter_items c.args.additions.now) addition (into_iter_items c.next.new.self) (into_iter_items c.put_in_all.new.additions)
    c.self.inside.node c.finish.new.node old siblings c.put_before.new.items.items listed c.self.view_is below c.finish.ensures
    (c.put_before.ensures ∙ ap (λ trees. trees ++ addition.children.items) full)

pub Command::put_in-invariant_of-self : goal.Command::put_in-invariant_of-self
Command::put_in-invariant_of-self t c =
    λ _. stays c.args.self.now (into_iter_items c.args.additions.now) (into_iter_items c.put_in_all.new.additions) (record { node = c.finish.new.node; children = forest_of c.put_before.new.items.items })
    c.requires.suit (is_built t c)

pub Command::put_in-returns : goal.Command::put_in-returns
Command::put_in-returns t c = record { ok = is_built t c }

pub build::put_in_all-put_in-requires : goal.build::put_in_all-put_in-requires
build::put_in_all-put_in-requires t c =
    let within : c.loop-sibling.sibling-index < length c.loop-sibling.siblings = omega (arith, c.loop-sibling.auto.siblings) in
    let same : get_or c.loop-sibling.siblings c.loop-sibling.sibling-index c.sibling-item.result ≡ get_or c.args.siblings.now c.loop-sibling.sibling-index c.sibling-item.result =
    c.loop-sibling.invariant.unvisited.1 c.loop-sibling.sibling-index c.sibling-item.result (le_refl c.loop-sibling.sibling-index) in
    let as_small : tree_size (get_or c.loop-sibling.siblings c.loop-sibling.sibling-index c.sibling-item.result) ≡ tree_size (get_or c.args.siblings.now c.loop-sibling.sibling-index c.sibling-item.result) =
    ap tree_size same in
    let smaller : size-Command (get_or c.args.siblings.now c.loop-sibling.sibling-index c.sibling-item.result) ≤ most size-Command c.args.siblings.now =
    at_most size-Command c.args.siblings.now c.loop-sibling.sibling-index c.sibling-item.result c.loop-sibling-test.true in (
      search rules,
      SuitTree-next (forest_of c.args.siblings.now) (into_iter_items c.args.additions.now) c.loop-sibling.siblings c.loop-sibling.sibling-index c.sibling-item.result
          (into_iter_items c.loop-sibling.additions) within c.requires.suit c.loop-sibling.invariant.put,
    )

pub build::put_in_all-loop-sibling-init : goal.build::put_in_all-loop-sibling-init
build::put_in_all-loop-sibling-init t c = record {
  unvisited = (refl, λ k d le. refl);
  put = λ inherited parent later fit. (refl, fit);
}

pub build::put_in_all-loop-sibling-preserved : goal.build::put_in_all-loop-sibling-preserved
build::put_in_all-loop-sibling-preserved t c =
    let within : c.loop-sibling.sibling-index < length c.loop-sibling.siblings = omega (arith, c.loop-sibling.auto.siblings) in
    record {
      unvisited = (
        length-set c.loop-sibling.siblings c.loop-sibling.sibling-index c.put_in.new.self ∙ c.loop-sibling.invariant.unvisited.0,
        λ k d le.
            let other : k ≢ c.loop-sibling.sibling-index = omega arith in
            let later : c.loop-sibling.sibling-index ≤ k = omega arith in
            get_or-set_other c.loop-sibling.siblings c.loop-sibling.sibling-index k c.put_in.new.self d other ∙ c.loop-sibling.invariant.unvisited.1 k d later,
      );
      put = IsPutUpTo-set (forest_of c.args.siblings.now) (into_iter_items c.args.additions.now) c.loop-sibling.siblings c.loop-sibling.sibling-index c.sibling-item.result
          (into_iter_items c.loop-sibling.additions) (into_iter_items c.put_in.new.additions) c.put_in.new.self within c.loop-sibling.invariant.put c.put_in.ensures.ok;
    }

pub build::put_in_all-returns : goal.build::put_in_all-returns
build::put_in_all-returns t c =
    let all : length c.loop-sibling.siblings ≤ c.loop-sibling.sibling-index = omega (arith, c.loop-sibling.auto.siblings) in
    record {
      ok = IsPutUpTo-all (forest_of c.args.siblings.now) (into_iter_items c.args.additions.now) c.loop-sibling.siblings c.loop-sibling.sibling-index (into_iter_items c.loop-sibling.additions)
          all c.loop-sibling.invariant.put;
    }
