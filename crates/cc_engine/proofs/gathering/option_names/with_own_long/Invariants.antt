use Rattle.std.proofs.Common.{◌≡◌, drop, find}
use Rattle.cc_engine.specs.OwnLongs.{has_own_long}
use Rattle.cc_engine.proofs.gathering.option_names.with_own_long.Given as goal

abbrev pub invariant-loop-argument : goal.invariant-loop-argument
invariant-loop-argument l =
    find (has_own_long l.flag) (drop l.argument-index l.arguments) ≡ find (has_own_long l.flag) l.arguments
