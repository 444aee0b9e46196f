use Rattle.std.proofs.Common.{◌≡◌, ◌++◌, take, drop}
use Rattle.std.specs.Prelude.{fold}
use Rattle.cc_command.specs.Made.{order_after, ordered_arguments}
use Rattle.cc_command.proofs.command.builders.order_arguments.Given as goal

-- the visited arguments, then the others as they will be, are the result, and the display order
-- after all of them is the same
abbrev pub invariant-loop-argument : goal.invariant-loop-argument
invariant-loop-argument l = record {
  ordered : take l.argument-index l.arguments ++ ordered_arguments l.next (drop l.argument-index l.arguments) ≡ ordered_arguments l.order l.initial.arguments;
  next : fold order_after l.next (drop l.argument-index l.arguments) ≡ fold order_after l.order l.initial.arguments;
}
