use Rattle.std.proofs.Common.{◌≡◌, drop}
use Rattle.cc_command.specs.Tree.{forest_of, has_nodes}
use Rattle.cc_parser.specs.Parsers.{kept}
use Rattle.cc_parser.proofs.exact.has_kept.Given as goal

abbrev pub invariant-loop-child : goal.invariant-loop-child
invariant-loop-child l =
    has_nodes (kept l.above (forest_of (drop l.child-index l.children))) ≡ has_nodes (kept l.above (forest_of l.children))
