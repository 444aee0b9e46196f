use Rattle.std.proofs.Common.{◌≡◌, ◌++◌, drop, map}
use Rattle.json.specs.Value.{items_view, members_view}
use Rattle.complgen_check.specs.Doubles.{hidden_in_items, hidden_in_members, shown_paths}
use Rattle.complgen_check.specs.Places.{shown_step}
use Rattle.complgen_check.proofs.errors.doubles.+find.Given as goal

-- with the items that are left it is the whole
abbrev pub invariant-find_in_items-loop-index : goal.invariant-find_in_items-loop-index
invariant-find_in_items-loop-index l = record {
  path : l.walk.path.items ≡ l.initial.walk.path.items;
  whole : shown_paths l.walk.found.items
      ++ hidden_in_items (map shown_step l.initial.walk.path.items) l.index
      (items_view (drop l.index l.item-items))
      ≡ shown_paths l.initial.walk.found.items
      ++ hidden_in_items (map shown_step l.initial.walk.path.items) 0 (items_view l.item-items);
}

-- the same of the members
abbrev pub invariant-find_in_members-loop-index : goal.invariant-find_in_members-loop-index
invariant-find_in_members-loop-index l = record {
  path : l.walk.path.items ≡ l.initial.walk.path.items;
  whole : shown_paths l.walk.found.items
      ++ hidden_in_members (map shown_step l.initial.walk.path.items)
      (members_view (drop l.index l.member-items))
      ≡ shown_paths l.initial.walk.found.items
      ++ hidden_in_members (map shown_step l.initial.walk.path.items) (members_view l.member-items);
}
