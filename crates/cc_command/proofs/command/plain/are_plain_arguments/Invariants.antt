use Rattle.std.proofs.Common.{◌≡◌, drop}
use Rattle.std.specs.List.{list_all}
use Rattle.cc_command.specs.Plain.{is_plain_argument}
use Rattle.cc_command.proofs.command.plain.are_plain_arguments.Given as goal

-- the visited arguments are plain
abbrev pub invariant-loop-argument : goal.invariant-loop-argument
invariant-loop-argument l = list_all is_plain_argument (drop l.argument-index l.arguments) ≡ list_all is_plain_argument l.arguments
