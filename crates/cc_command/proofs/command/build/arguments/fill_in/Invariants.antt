use Rattle.std.proofs.Common.{◌≡◌, ◌≤◌, ◌++◌, suc, map, take, drop}
use Rattle.cc_arg.specs.Arguments.{filled}
use Rattle.cc_command.specs.Built.{indexed}
use Rattle.cc_command.proofs.command.build.arguments.fill_in.Given as goal

-- the visited arguments, then the indexed others, are the result; at most one index was set for
-- each
abbrev pub invariant-loop-argument : goal.invariant-loop-argument
invariant-loop-argument l = record {
  whole : take l.argument-index l.arguments ++ indexed (suc l.count) (map filled (drop l.argument-index l.arguments)) ≡ indexed 1 (map filled l.initial.arguments);
  count : l.count ≤ l.argument-index;
}
