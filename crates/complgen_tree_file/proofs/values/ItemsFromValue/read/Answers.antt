use Rattle.std.proofs.Common.{◌≡◌, ◌∙◌, ◌&&◌, ◌<◌, ap, arith, get_or, is_some, length, sym}
use Rattle.complgen_tree_file.specs.JsonSeen.{view}
use Rattle.complgen_tree_file.specs.Faults.{has_none}
use Rattle.complgen_tree_file.specs.TreeForm.{with_item}
use Rattle.complgen_tree_file.proofs.FaultLemmas.{both_there}
use Rattle.complgen_tree_file.proofs.TreeFormLemmas.{all_of_next}
use Rattle.complgen_tree_file.proofs.values.ItemsFromValue.read.Goals as goal

pub loop-index-preserved : goal.loop-index-preserved
loop-index-preserved g c =
    let items = c.deref-item-items.result.now in
    let form = g.T.FromValue.form in
    let item = c.item-item.result in
    let inside : c.loop-index.index < length items = omega arith in
    let before = has_none c.args.faults.now in
    let read : c.in_ok-list.list ≡ with_item c.loop-index.list (form (view item)) =
    c.in_ok-list.ensures ∙ ap (with_item c.loop-index.list) c.in_ok-found.ensures.same in
    record {
      list = read ∙ ap (λ v. with_item c.loop-index.list (form (view v))) c.item-item.is
          ∙ ap (λ list. with_item list (form (view (get_or items c.loop-index.index item)))) c.loop-index.invariant.list
          ∙ sym (all_of_next form items c.loop-index.index item inside);
      faults = c.in_ok-found.ensures.faults
          ∙ ap (λ b. b && is_some (form (view item))) c.loop-index.invariant.faults
          ∙ both_there before c.loop-index.list (form (view item))
          ∙ ap (λ list. before && is_some list) (sym read);
    }
