use Rattle.std.proofs.Common.{◌≡◌, ◌++◌, drop}
use Rattle.cc_command.specs.Built.{globals}
use Rattle.cc_command.proofs.command.build.arguments.push_globals.Given as goal

-- the arguments that were kept, then the global ones of the others, are the result
abbrev pub invariant-loop-argument : goal.invariant-loop-argument
invariant-loop-argument l = l.kept.items ++ globals (drop l.argument-index l.arguments) ≡ l.fn.kept.items ++ globals l.arguments
