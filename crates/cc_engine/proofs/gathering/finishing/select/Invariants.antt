use Rattle.std.proofs.Common.{◌≡◌, ◌++◌}
use Rattle.std.specs.Iterator.Adapters.{zip_first, zip_second}
use Rattle.std.specs.Vec.Iter.{into_iter_items}
use Rattle.cc_engine.specs.Seen.{select}
use Rattle.cc_engine.proofs.gathering.finishing.select.Given as goal

abbrev pub invariant-loop-mark : goal.invariant-loop-mark
invariant-loop-mark l =
    l.kept.items ++ select (into_iter_items (zip_first l.mark-iterator)) (into_iter_items (zip_second l.mark-iterator))
    ≡ select l.fn.marks.items l.fn.candidates.items
