use Rattle.std.proofs.Common.{◌≡◌, ◌++◌, drop, map}
use Rattle.std.specs.String.{string_bytes}
use Rattle.cc_generator.proofs.utils.push_texts.Given as goal

-- the longs so far and the remaining texts make up the whole
abbrev pub invariant-loop-text : goal.invariant-loop-text
invariant-loop-text l = map string_bytes l.longs.items ++ drop l.text-index l.texts ≡ map string_bytes l.initial.longs.items ++ l.texts
