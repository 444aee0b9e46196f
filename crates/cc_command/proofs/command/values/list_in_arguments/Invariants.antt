use Rattle.std.proofs.Common.{◌≡◌, ◌++◌, map, take, drop}
use Rattle.cc_arg.specs.ValueSources.{listed}
use Rattle.cc_command.proofs.command.values.list_in_arguments.Given as goal

-- the visited arguments, then the others with the list, are the result
abbrev pub invariant-loop-argument : goal.invariant-loop-argument
invariant-loop-argument l =
    take l.argument-index l.arguments ++ map (listed l.asked l.values) (drop l.argument-index l.arguments)
    ≡ map (listed l.asked l.values) l.initial.arguments
