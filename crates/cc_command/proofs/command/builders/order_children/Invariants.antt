use Rattle.std.proofs.Common.{◌≡◌, ◌++◌, take, drop}
use Rattle.std.specs.Prelude.{fold}
use Rattle.cc_command.specs.Made.{order_after_child, ordered_children}
use Rattle.cc_command.proofs.command.builders.order_children.Given as goal

-- the visited children, then the others as they will be, are the result, and the display order
-- after all of them is the same
abbrev pub invariant-loop-child : goal.invariant-loop-child
invariant-loop-child l = record {
  ordered : take l.child-index l.children ++ ordered_children l.next (drop l.child-index l.children) ≡ ordered_children l.order l.initial.children;
  next : fold order_after_child l.next (drop l.child-index l.children) ≡ fold order_after_child l.order l.initial.children;
}
