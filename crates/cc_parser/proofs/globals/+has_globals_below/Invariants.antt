use Rattle.std.proofs.Common.{◌≡◌, drop}
use Rattle.cc_command.specs.Tree.{forest_of, forest_size}
use Rattle.cc_parser.specs.Parsers.{globals_in, is_disabled_below}
use Rattle.cc_parser.proofs.globals.+has_globals_below.Given as goal

abbrev pub invariant-loop-child : goal.invariant-loop-child
invariant-loop-child l =
    globals_in l.above (is_disabled_below l.above (forest_of l.children)) (forest_of (drop l.child-index l.children))
    ≡ globals_in l.above (is_disabled_below l.above (forest_of l.children)) (forest_of l.children)

-- the number of nodes among the children and below them
abbrev pub decreases-has_globals_below : goal.decreases-has_globals_below
decreases-has_globals_below l = forest_size (forest_of l.children.now)
