use Rattle.std.proofs.Common.{◌≡◌, ◌++◌, drop, flat_map}
use Rattle.complgen_lints.specs.TextLints.{part_list}
use Rattle.complgen_lints.proofs.text_lints.push_parts.Given as goal

-- the items so far and the remaining ones make the whole
abbrev pub invariant-loop-part : goal.invariant-loop-part
invariant-loop-part l =
    l.found ++ flat_map (part_list l.lint l.spot) (drop l.part-index l.parts)
    ≡ l.initial.found ++ flat_map (part_list l.lint l.spot) l.parts
