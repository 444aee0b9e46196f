use Rattle.std.proofs.Common.{◌≡◌, ◌++◌, drop}
use Rattle.cc_generator.specs.ArgumentNames.{all_shorts}
use Rattle.cc_generator.proofs.utils.shorts_and_visible_aliases.Given as goal

-- the shorts so far and those of the remaining arguments make up the whole
abbrev pub invariant-loop-argument : goal.invariant-loop-argument
invariant-loop-argument l = l.shorts.items ++ all_shorts (drop l.argument-index l.argument-items) ≡ all_shorts l.argument-items
