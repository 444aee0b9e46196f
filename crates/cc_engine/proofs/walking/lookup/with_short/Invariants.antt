use Rattle.std.proofs.Common.{◌≡◌, drop, find}
use Rattle.cc_engine.specs.Lookup.{has_short}
use Rattle.cc_engine.proofs.walking.lookup.with_short.Given as goal

abbrev pub invariant-loop-argument : goal.invariant-loop-argument
invariant-loop-argument l =
    find (has_short l.character) (drop l.argument-index l.arguments) ≡ find (has_short l.character) l.arguments
