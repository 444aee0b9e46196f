use Rattle.std.proofs.Common.{◌+◌, ◌-◌}
use Rattle.cc_command.specs.Tree.{forest_size}
use Rattle.cc_generator.specs.Flat.{entries_of}
use Rattle.cc_generator.proofs.Numbering.{IsFlatUpTo}
use Rattle.cc_generator.proofs.flat.Flat.new.Given as goal

-- the nodes before the number have their children
abbrev pub invariant-loop-number : goal.invariant-loop-number
invariant-loop-number l = IsFlatUpTo l.root l.number (entries_of l.nodes.items)

abbrev pub decreases-loop-number : goal.decreases-loop-number
decreases-loop-number l = 1 + forest_size l.root.children - l.number
