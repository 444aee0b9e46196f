use Rattle.std.proofs.Common.{◌≡◌, drop}
use Rattle.cc_command.specs.Plain.{all_differ}
use Rattle.cc_command.proofs.command.plain.all_differ.Given as goal

-- none of the visited names appears again
abbrev pub invariant-loop-position : goal.invariant-loop-position
invariant-loop-position l = all_differ (drop l.position l.names) ≡ all_differ l.names
