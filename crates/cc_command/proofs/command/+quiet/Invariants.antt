use Rattle.std.proofs.Common.{◌≡◌, drop}
use Rattle.cc_command.specs.Tree.{forest_of}
use Rattle.cc_command.specs.Quiet.{is_quiet_forest}
use Rattle.cc_command.proofs.command.+quiet.Given as goal

-- the values of the visited siblings, and of all commands below them, are quiet
abbrev pub invariant-quiet::is_quiet_forest-loop-sibling : goal.invariant-quiet::is_quiet_forest-loop-sibling
invariant-quiet::is_quiet_forest-loop-sibling l =
    is_quiet_forest (forest_of (drop l.sibling-index l.siblings)) ≡ is_quiet_forest (forest_of l.siblings)
