use Rattle.std.proofs.Common.{◌∙◌, ◌<◌, ap, arith, false, length, refl, rules, subst, sym, true}
use Rattle.json.specs.Tree.{items_tokens, json_tokens, members_tokens}
use Rattle.json.specs.Value.{items_view, members_view, value_view}
use Rattle.json.proofs.Trees.{item_smaller, member_smaller}
use Rattle.complgen_tree_file.specs.JsonSeen.{are_in_range, is_in_range, members_are_in_range}
use Rattle.complgen_tree_file.proofs.JsonRangeSteps.{range_step}
use Rattle.complgen_tree_file.proofs.json_values.range.+range.Goals as goal

pub have_range-has_range-requires : goal.have_range-has_range-requires
have_range-has_range-requires t c =
    let xs = c.deref-item-items.result.now in
    let x = c.item-item.result in
    let smaller : length (json_tokens (value_view x)) < length (items_tokens (items_view c.args.items.now.items)) =
    subst (λ ys. length (json_tokens (value_view x)) < length (items_tokens (items_view ys))) c.deref-item-items.ensures.value
    (subst (λ y. length (json_tokens (value_view y)) < length (items_tokens (items_view xs))) (sym c.item-item.is) (item_smaller xs c.loop-item.item-index x (omega arith))) in
    search rules

pub have_range-returns-then-not-has_range : goal.have_range-returns-then-not-has_range
have_range-returns-then-not-has_range t c =
    range_step (λ x. is_in_range (value_view x)) (λ xs. are_in_range (items_view xs)) (λ x xs. refl)
    c.deref-item-items.result.now c.loop-item.item-index c.item-item.result false _ (omega arith) c.item-item.is (search rules)
    c.loop-item.invariant
    ∙ ap (λ xs. are_in_range (items_view xs)) c.deref-item-items.ensures.value

pub have_range-loop-item-preserved : goal.have_range-loop-item-preserved
have_range-loop-item-preserved t c =
    range_step (λ x. is_in_range (value_view x)) (λ xs. are_in_range (items_view xs)) (λ x xs. refl)
    c.deref-item-items.result.now c.loop-item.item-index c.item-item.result true _ (omega arith) c.item-item.is (search rules)
    c.loop-item.invariant

pub members_have_range-has_range-requires : goal.members_have_range-has_range-requires
members_have_range-has_range-requires t c =
    let xs = c.deref-member-items.result.now in
    let x = c.member-item.result in
    let smaller : length (json_tokens (value_view x.1)) < length (members_tokens (members_view c.args.members.now.items)) =
    subst (λ ys. length (json_tokens (value_view x.1)) < length (members_tokens (members_view ys))) c.deref-member-items.ensures.value
    (subst (λ y. length (json_tokens (value_view y.1)) < length (members_tokens (members_view xs))) (sym c.member-item.is) (member_smaller xs c.loop-member.member-index x (omega arith))) in
    search rules

pub members_have_range-returns-then-not-has_range : goal.members_have_range-returns-then-not-has_range
members_have_range-returns-then-not-has_range t c =
    range_step (λ x. is_in_range (value_view x.1)) (λ xs. members_are_in_range (members_view xs)) (λ x xs. refl)
    c.deref-member-items.result.now c.loop-member.member-index c.member-item.result false _ (omega arith) c.member-item.is (search rules)
    c.loop-member.invariant
    ∙ ap (λ xs. members_are_in_range (members_view xs)) c.deref-member-items.ensures.value

pub members_have_range-loop-member-preserved : goal.members_have_range-loop-member-preserved
members_have_range-loop-member-preserved t c =
    range_step (λ x. is_in_range (value_view x.1)) (λ xs. members_are_in_range (members_view xs)) (λ x xs. refl)
    c.deref-member-items.result.now c.loop-member.member-index c.member-item.result true _ (omega arith) c.member-item.is (search rules)
    c.loop-member.invariant
