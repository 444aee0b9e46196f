use Rattle.std.proofs.Common.{◌≡◌, length}
use Rattle.cc_command.specs.Iterators.{arguments_left}
use Rattle.cc_command.proofs.command.iterators.ArgumentsIterator.next.Given as goal

-- the visited arguments are of another kind
abbrev pub invariant-loop-self : goal.invariant-loop-self
invariant-loop-self l = arguments_left l.self ≡ arguments_left l.initial.self

abbrev pub decreases-loop-self : goal.decreases-loop-self
decreases-loop-self l = length l.self.arguments.now
