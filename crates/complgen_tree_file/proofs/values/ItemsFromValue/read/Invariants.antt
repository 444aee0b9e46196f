use Rattle.std.proofs.Common.{◌≡◌, ◌&&◌, is_some, take}
use Rattle.complgen_tree_file.specs.JsonSeen.{items_view}
use Rattle.complgen_tree_file.specs.Faults.{has_none}
use Rattle.complgen_tree_file.specs.TreeForm.{all_of}
use Rattle.complgen_tree_file.proofs.values.ItemsFromValue.read.Given as goal

-- the items so far are read
abbrev pub invariant-loop-index : goal.invariant-loop-index
invariant-loop-index g l = record {
  list : l.list ≡ all_of g.T.FromValue.form (items_view (take l.index l.item-items));
  faults : has_none l.faults ≡ (has_none l.initial.faults && is_some l.list);
}
