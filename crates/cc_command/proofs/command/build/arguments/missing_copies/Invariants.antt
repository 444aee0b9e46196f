use Rattle.std.proofs.Common.{◌≡◌, ◌++◌, drop}
use Rattle.cc_command.specs.Built.{with_missing}
use Rattle.cc_command.proofs.command.build.arguments.missing_copies.Given as goal

-- adding the remaining arguments gives the same result as adding all to the own ones
abbrev pub invariant-loop-other : goal.invariant-loop-other
invariant-loop-other l = with_missing (l.own ++ l.missing.items) (drop l.other-index l.others) ≡ with_missing l.own l.others
