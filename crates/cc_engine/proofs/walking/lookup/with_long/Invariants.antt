use Rattle.std.proofs.Common.{◌≡◌, drop, find}
use Rattle.cc_engine.specs.Lookup.{has_long}
use Rattle.cc_engine.proofs.walking.lookup.with_long.Given as goal

abbrev pub invariant-loop-argument : goal.invariant-loop-argument
invariant-loop-argument l = find (has_long l.flag) (drop l.argument-index l.arguments) ≡ find (has_long l.flag) l.arguments
