use Rattle.std.proofs.Common.{◌≡◌, ◌||◌, Bool, take, false}
use Rattle.clap.specs.Words.{app_of}
use Rattle.clap.specs.declared.builder.command.Command.TheViews.{out-Command}
use Rattle.cc_command.specs.Tree.{Forest, forest_of, forest_size}
use Rattle.cc_parser.specs.Local.{local_forest}
use Rattle.cc_parser.specs.Parsers.{AddsShapes, IsLeaf, globals_in, is_disabled_below}
use Rattle.cc_parser.proofs.command.+with_children.Given as goal

abbrev pub invariant-loop-child : goal.invariant-loop-child
invariant-loop-child l =
    let here : Bool = is_disabled_below l.above (local_forest l.local (forest_of l.children)) in
    let before : Forest = local_forest l.local (forest_of (take l.child-index l.children)) in
    (globals_in l.above here before ≡ false → IsLeaf (app_of l.fn.parser) → AddsShapes l.above here before (app_of l.fn.parser) (app_of l.parser))
    × ((out-Command l.parser).has_globals ≡ ((out-Command l.fn.parser).has_globals || globals_in l.above here before))

-- the number of nodes among the children and below them
abbrev pub decreases-with_children : goal.decreases-with_children
decreases-with_children l = forest_size (forest_of l.children.now)
