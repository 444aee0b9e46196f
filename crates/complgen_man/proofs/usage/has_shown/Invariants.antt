use Rattle.std.proofs.Common.{◌≡◌, drop}
use Rattle.cc_command.specs.Tree.{forest_of}
use Rattle.complgen_man.specs.Page.{has_shown}
use Rattle.complgen_man.proofs.usage.has_shown.Given as goal

-- the visited children are hidden
abbrev pub invariant-loop-child : goal.invariant-loop-child
invariant-loop-child l =
    has_shown (forest_of (drop l.child-index l.children)) ≡ has_shown (forest_of l.children)
