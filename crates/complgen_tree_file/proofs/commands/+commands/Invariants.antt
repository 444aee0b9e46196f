use Rattle.std.specs.Prelude.{◌≡◌, drop, fold}
use Rattle.serde_json.specs.Data.{depth}
use Rattle.complgen_tree_file.specs.JsonSeen.{items_view, view}
use Rattle.cc_command.specs.Made.{with_child}
use Rattle.complgen_tree_file.specs.CommandForm.{each_command, each_command_fits}
use Rattle.complgen_tree_file.specs.Faults.{has_none}
use Rattle.complgen_tree_file.proofs.commands.+commands.Given as goal

abbrev pub decreases-read_command : goal.decreases-read_command
decreases-read_command l = depth (view l.tree.now)

abbrev pub decreases-add_children : goal.decreases-add_children
decreases-add_children l = depth (view l.value.now)

-- with the children that are left it is the whole
abbrev pub invariant-add_children-loop-index : goal.invariant-add_children-loop-index
invariant-add_children-loop-index l = record {
  made : fold with_child l.parent (each_command (items_view (drop l.index l.item-items)))
      ≡ fold with_child l.initial.parent (each_command (items_view l.item-items));
  faults : each_command_fits (items_view (drop l.index l.item-items)) (has_none l.faults)
      ≡ each_command_fits (items_view l.item-items) (has_none l.initial.faults);
}
