use Rattle.std.specs.Prelude.{◌≡◌, drop, fold}
use Rattle.complgen_tree_file.specs.JsonSeen.{items_view}
use Rattle.cc_command.specs.Made.{with_argument}
use Rattle.complgen_tree_file.specs.ArgumentForm.{argument_fits, argument_in}
use Rattle.complgen_tree_file.specs.Faults.{has_none}
use Rattle.complgen_tree_file.specs.TreeForm.{each_fits, each_in}
use Rattle.complgen_tree_file.proofs.commands.add_each.Given as goal

-- with the arguments that are left it is the whole
abbrev pub invariant-loop-index : goal.invariant-loop-index
invariant-loop-index l = record {
  made : fold with_argument l.node (each_in argument_in (items_view (drop l.index l.item-items)))
      ≡ fold with_argument l.initial.node (each_in argument_in (items_view l.item-items));
  faults : each_fits argument_fits (items_view (drop l.index l.item-items)) (has_none l.faults)
      ≡ each_fits argument_fits (items_view l.item-items) (has_none l.initial.faults);
}
