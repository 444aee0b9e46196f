use Rattle.std.proofs.Common.{◌≡◌, map}
use Rattle.cc_generator.proofs.utils.flags.Given as goal

-- the flags so far
abbrev pub invariant-loop-flag : goal.invariant-loop-flag
invariant-loop-flag l = map (λ flag. flag.now) l.found.items ≡ map (λ flag. flag.now) l.yielded
