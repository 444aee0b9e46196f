use Rattle.std.proofs.Common.{◌≡◌, drop}
use Rattle.cc_command.specs.Names.{has_id}
use Rattle.cc_command.proofs.command.build.arguments.has_id.Given as goal

-- none of the visited arguments has the id
abbrev pub invariant-loop-argument : goal.invariant-loop-argument
invariant-loop-argument l = has_id (drop l.argument-index l.arguments) l.id ≡ has_id l.arguments l.id
