use Rattle.std.proofs.Common.{◌≡◌, ◌++◌, map}
use Rattle.cc_generator.proofs.keys.push_keys_below.Given as goal

-- the keys of the names so far
abbrev pub invariant-loop-name : goal.invariant-loop-name
invariant-loop-name g l = l.made.items ≡ l.initial.made.items ++ map (g.K.KeyScheme.child_key l.keys l.key) (map (λ name. name.now) l.yielded)
