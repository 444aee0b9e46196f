use Rattle.std.proofs.Common.{◌≡◌, length, map, string_bytes}
use Rattle.cc_env.specs.Arguments.{after_dashes}
use Rattle.cc_env.proofs.arguments.after_dashes.Given as goal

-- the same words follow the first `--` of what is left
abbrev pub invariant-loop-word : goal.invariant-loop-word
invariant-loop-word l =
    after_dashes (map string_bytes l.left) ≡ after_dashes (map string_bytes l.words)

abbrev pub decreases-loop-word : goal.decreases-loop-word
decreases-loop-word l = length l.left
