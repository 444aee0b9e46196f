use Rattle.std.proofs.Common.{◌≡◌, drop}
use Rattle.cc_command.specs.Tree.{forest_of}
use Rattle.cc_parser.specs.Taken.{are_help_if_generated}
use Rattle.cc_parser.proofs.fits.are_help_if_generated.Given as goal

abbrev pub invariant-loop-child : goal.invariant-loop-child
invariant-loop-child l = are_help_if_generated (forest_of (drop l.child-index l.children)) ≡ are_help_if_generated (forest_of l.children)
