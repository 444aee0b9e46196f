use Rattle.std.proofs.Common.{◌≡◌, drop}
use Rattle.std.specs.List.{list_all}
use Rattle.cc_command.specs.Escaped.{is_escaped_argument}
use Rattle.cc_command.proofs.command.escaped.are_escaped_arguments.Given as goal

-- the visited arguments have no unescaped quote
abbrev pub invariant-loop-argument : goal.invariant-loop-argument
invariant-loop-argument l = list_all is_escaped_argument (drop l.argument-index l.arguments) ≡ list_all is_escaped_argument l.arguments
