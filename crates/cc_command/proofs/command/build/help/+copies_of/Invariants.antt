use Rattle.std.proofs.Common.{◌≡◌, take}
use Rattle.cc_command.specs.Tree.{forest_of}
use Rattle.cc_command.specs.Generated.{copies}
use Rattle.cc_command.proofs.command.build.help.+copies_of.Given as goal

-- the visited siblings are copied
abbrev pub invariant-loop-position : goal.invariant-loop-position
invariant-loop-position l = forest_of l.made.items ≡ copies l.parent 0 (forest_of (take l.position l.siblings))
