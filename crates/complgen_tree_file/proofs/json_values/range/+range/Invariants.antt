use Rattle.std.proofs.Common.{◌≡◌, drop, length}
use Rattle.json.specs.Tree.{items_tokens, json_tokens, members_tokens}
use Rattle.json.specs.Value.{items_view, members_view, value_view}
use Rattle.complgen_tree_file.specs.JsonSeen.{are_in_range, members_are_in_range}
use Rattle.complgen_tree_file.proofs.json_values.range.+range.Given as goal

abbrev pub decreases-has_range : goal.decreases-has_range
decreases-has_range l = length (json_tokens (value_view l.value.now))

abbrev pub decreases-have_range : goal.decreases-have_range
decreases-have_range l = length (items_tokens (items_view l.items.now.items))

abbrev pub decreases-members_have_range : goal.decreases-members_have_range
decreases-members_have_range l = length (members_tokens (members_view l.members.now.items))

-- those that are left are in range where all are
abbrev pub invariant-have_range-loop-item : goal.invariant-have_range-loop-item
invariant-have_range-loop-item l =
    are_in_range (items_view (drop l.item-index l.item-items))
    ≡ are_in_range (items_view l.item-items)

abbrev pub invariant-members_have_range-loop-member : goal.invariant-members_have_range-loop-member
invariant-members_have_range-loop-member l =
    members_are_in_range (members_view (drop l.member-index l.member-items))
    ≡ members_are_in_range (members_view l.member-items)
