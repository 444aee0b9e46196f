use Rattle.std.proofs.Common.{◌≡◌, drop}
use Rattle.cc_command.specs.ArgumentLists.{first_with_id}
use Rattle.cc_command.proofs.command.conflicts.first_with_id.Given as goal

-- none of the visited arguments has the id
abbrev pub invariant-loop-argument : goal.invariant-loop-argument
invariant-loop-argument l = first_with_id (drop l.argument-index l.arguments) l.id ≡ first_with_id l.arguments l.id
