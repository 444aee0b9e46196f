use Rattle.std.proofs.Common.{◌≡◌, ◌++◌, map, length}
use Rattle.std.specs.String.{string_bytes}
use Rattle.std.specs.Vec.Iter.{into_iter_items}
use Rattle.complgen_c.specs.Requests.{both_bytes, in_pairs}
use Rattle.complgen_c.proofs.requests.pairs.Given as goal

abbrev pub invariant-loop-first : goal.invariant-loop-first
invariant-loop-first l =
    map both_bytes l.pairs.items ++ in_pairs (map string_bytes (into_iter_items l.left))
    ≡ in_pairs (map string_bytes l.fn.texts.items)

abbrev pub decreases-loop-first : goal.decreases-loop-first
decreases-loop-first l = length (into_iter_items l.left)
