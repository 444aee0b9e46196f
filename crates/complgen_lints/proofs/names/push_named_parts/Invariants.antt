use Rattle.std.proofs.Common.{◌≡◌, ◌++◌, drop, map}
use Rattle.complgen_lints.specs.PlacedNames.{named_part}
use Rattle.complgen_lints.proofs.names.push_named_parts.Given as goal

-- the names so far and the remaining ones make the whole
abbrev pub invariant-loop-part : goal.invariant-loop-part
invariant-loop-part l =
    l.names.items ++ map (named_part l.index l.owner) (drop l.part-index l.parts)
    ≡ l.initial.names.items ++ map (named_part l.index l.owner) l.parts
