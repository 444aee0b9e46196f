use Rattle.std.proofs.Common.{◌≡◌, drop}
use Rattle.cc_command.specs.Tree.{forest_of}
use Rattle.cc_command.specs.Names.{has_child}
use Rattle.cc_command.proofs.command.children.has_child.Given as goal

-- none of the visited siblings has the name or alias
abbrev pub invariant-loop-sibling : goal.invariant-loop-sibling
invariant-loop-sibling l = has_child (forest_of (drop l.sibling-index l.siblings)) l.word ≡ has_child (forest_of l.siblings) l.word
