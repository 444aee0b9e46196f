use Rattle.std.proofs.Common.{◌≡◌, drop, false}
use Rattle.cc_command.specs.Tree.{forest_of}
use Rattle.cc_parser.specs.Exact.{are_leaves}
use Rattle.cc_parser.specs.Parsers.{kept}
use Rattle.cc_parser.proofs.exact.are_leaves.Given as goal

abbrev pub invariant-loop-child : goal.invariant-loop-child
invariant-loop-child l =
    are_leaves l.here (kept false (forest_of (drop l.child-index l.children))) ≡ are_leaves l.here (kept false (forest_of l.children))
