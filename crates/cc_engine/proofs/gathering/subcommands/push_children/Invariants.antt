use Rattle.std.proofs.Common.{◌≡◌, ◌++◌, drop}
use Rattle.std.specs.Prelude.{filter}
use Rattle.cc_command.specs.Tree.{forest_of}
use Rattle.cc_candidates.specs.Beginning.{begins}
use Rattle.cc_engine.specs.Children.{children_candidates}
use Rattle.cc_engine.proofs.gathering.subcommands.push_children.Given as goal

abbrev pub invariant-loop-child : goal.invariant-loop-child
invariant-loop-child l =
    l.found.items ++ filter (begins l.word) (children_candidates l.parent.node (forest_of (drop l.child-index l.siblings)))
    ≡ l.initial.found.items ++ filter (begins l.word) (children_candidates l.parent.node (forest_of l.siblings))
