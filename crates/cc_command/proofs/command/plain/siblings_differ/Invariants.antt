use Rattle.std.proofs.Common.{◌≡◌, drop}
use Rattle.cc_command.specs.Tree.{forest_of}
use Rattle.cc_command.specs.Plain.{siblings_differ}
use Rattle.cc_command.proofs.command.plain.siblings_differ.Given as goal

-- the names of the visited siblings differ from all others
abbrev pub invariant-loop-position : goal.invariant-loop-position
invariant-loop-position l = siblings_differ (forest_of (drop l.position l.siblings)) ≡ siblings_differ (forest_of l.siblings)
