use Rattle.std.specs.List.{AllByRecursion}
use Rattle.cc_replies.proofs.Named.{Named}
use Rattle.cc_replies.proofs.system.variables.Given as goal

abbrev pub invariant-loop-name : goal.invariant-loop-name
invariant-loop-name g l = AllByRecursion (Named l.names) l.found.items
