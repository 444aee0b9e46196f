use Rattle.std.proofs.Common.{◌≡◌, drop}
use Rattle.std.specs.List.{list_all}
use Rattle.cc_command.specs.Quiet.{is_quiet_argument}
use Rattle.cc_command.proofs.command.quiet.is_quiet_node.Given as goal

-- the values of the visited arguments are quiet
abbrev pub invariant-loop-argument : goal.invariant-loop-argument
invariant-loop-argument l = list_all is_quiet_argument (drop l.argument-index l.argument-items) ≡ list_all is_quiet_argument l.argument-items
