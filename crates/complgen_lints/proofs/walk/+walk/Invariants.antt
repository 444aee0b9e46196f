use Rattle.std.proofs.Common.{◌≡◌, ◌+◌, ◌*◌, ◌++◌, drop}
use Rattle.cc_command.specs.Tree.{forest_of, forest_size, tree_size}
use Rattle.complgen_lints.specs.PremiseList.{forest_list}
use Rattle.complgen_lints.specs.Premises.{premises_in}
use Rattle.complgen_lints.proofs.walk.+walk.Given as goal

-- the premises so far and the remaining ones make the whole
abbrev pub invariant-push_children-loop-index : goal.invariant-push_children-loop-index
invariant-push_children-loop-index l =
    premises_in l.warnings.items ++ forest_list l.at.path.now l.index (forest_of (drop l.index l.children))
    ≡ premises_in l.initial.warnings.items ++ forest_list l.at.path.now 0 (forest_of l.children)

-- the number of nodes below a command, and that of its children
abbrev pub decreases-push_tree : goal.decreases-push_tree
decreases-push_tree l = 2 * tree_size l.command.now + 1

abbrev pub decreases-push_children : goal.decreases-push_children
decreases-push_children l = 2 * forest_size (forest_of l.children.now)
