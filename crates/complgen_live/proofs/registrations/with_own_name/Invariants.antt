use Rattle.std.proofs.Common.{◌≡◌, map, take}
use Rattle.std.specs.String.{string_bytes}
use Rattle.complgen_live.proofs.registrations.with_own_name.Given as goal

-- the names so far
abbrev pub invariant-loop-name : goal.invariant-loop-name
invariant-loop-name l =
    map (λ name. name.now) l.all.items ≡ map string_bytes (take l.name-index l.plain)
