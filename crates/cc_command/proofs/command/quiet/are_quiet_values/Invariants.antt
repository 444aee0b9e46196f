use Rattle.std.proofs.Common.{◌≡◌, Some, drop}
use Rattle.cc_command.specs.Quiet.{are_quiet_values}
use Rattle.cc_command.proofs.command.quiet.are_quiet_values.Given as goal

-- the visited values are quiet
abbrev pub invariant-loop-value : goal.invariant-loop-value
invariant-loop-value l = are_quiet_values (Some (drop l.value-index l.values)) ≡ are_quiet_values (Some l.values)
