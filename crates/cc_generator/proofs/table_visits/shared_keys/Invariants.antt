use Rattle.std.proofs.Common.{◌≡◌, take}
use Rattle.cc_generator.proofs.table_visits.shared_keys.Given as goal

-- the keys so far
abbrev pub invariant-loop-key : goal.invariant-loop-key
invariant-loop-key l = l.shared.items ≡ take l.key-index l.keys
