use Rattle.std.proofs.Common.{take}
use Rattle.cc_command.specs.Tree.{forest_of}
use Rattle.cc_command.specs.Additions.{AreAfter}
use Rattle.cc_command.proofs.command.+additions.Given as goal

-- the additions to the visited siblings are in the list
abbrev pub invariant-build::push_additions_to-loop-sibling : goal.invariant-build::push_additions_to-loop-sibling
invariant-build::push_additions_to-loop-sibling l = AreAfter l.inherited l.parent (forest_of (take l.sibling-index l.siblings)) l.fn.additions.items l.additions.items
