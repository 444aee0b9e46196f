use Rattle.std.proofs.Common.{◌≡◌, drop, find}
use Rattle.cc_engine.specs.Lookup.{is_at}
use Rattle.cc_engine.proofs.walking.lookup.positional_at.Given as goal

abbrev pub invariant-loop-argument : goal.invariant-loop-argument
invariant-loop-argument l = find (is_at l.position) (drop l.argument-index l.arguments) ≡ find (is_at l.position) l.arguments
