use Rattle.std.proofs.Common.{◌≡◌, ◌++◌, map}
use Rattle.cc_generator.specs.Flat.{tree_at}
use Rattle.cc_generator.specs.Nodes.{nodes_left}
use Rattle.cc_bash.specs.Labels.{labelled_under}
use Rattle.cc_bash.specs.Nodes.{labelled_of}
use Rattle.cc_bash.proofs.LabelledPath.{labelled_along}
use Rattle.cc_bash.proofs.nodes.labelled_nodes.Given as goal

-- the nodes so far and the remaining nodes make up the whole
abbrev pub invariant-loop-node : goal.invariant-loop-node
invariant-loop-node l =
    map labelled_of l.nodes.items ++ labelled_along l.root l.path.items (nodes_left l.node-iterator)
    ≡ labelled_under l.root 2 (tree_at l.flat 0).children
