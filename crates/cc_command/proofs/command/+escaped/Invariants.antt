use Rattle.std.proofs.Common.{◌≡◌, drop}
use Rattle.cc_command.specs.Tree.{forest_of}
use Rattle.cc_command.specs.Escaped.{is_escaped_forest}
use Rattle.cc_command.proofs.command.+escaped.Given as goal

-- the quotes of the visited siblings, and of all commands below them, are escaped
abbrev pub invariant-escaped::is_escaped_forest-loop-sibling : goal.invariant-escaped::is_escaped_forest-loop-sibling
invariant-escaped::is_escaped_forest-loop-sibling l =
    is_escaped_forest (forest_of (drop l.sibling-index l.siblings)) ≡ is_escaped_forest (forest_of l.siblings)
