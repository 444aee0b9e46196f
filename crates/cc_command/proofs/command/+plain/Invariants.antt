use Rattle.std.proofs.Common.{◌≡◌, drop}
use Rattle.cc_command.specs.Tree.{forest_of}
use Rattle.cc_command.specs.Plain.{is_plain_forest}
use Rattle.cc_command.proofs.command.+plain.Given as goal

-- the visited siblings, and all commands below them, are plain
abbrev pub invariant-plain::is_plain_forest-loop-sibling : goal.invariant-plain::is_plain_forest-loop-sibling
invariant-plain::is_plain_forest-loop-sibling l =
    is_plain_forest (forest_of (drop l.sibling-index l.siblings)) ≡ is_plain_forest (forest_of l.siblings)
