use Rattle.std.proofs.Common.{◌≡◌, ◌++◌, drop, map}
use Rattle.std.specs.String.{string_bytes}
use Rattle.cc_generator.specs.ArgumentNames.{all_longs}
use Rattle.cc_generator.proofs.utils.longs_and_visible_aliases.Given as goal

-- the longs so far and those of the remaining arguments make up the whole
abbrev pub invariant-loop-argument : goal.invariant-loop-argument
invariant-loop-argument l = map string_bytes l.longs.items ++ all_longs (drop l.argument-index l.argument-items) ≡ all_longs l.argument-items
