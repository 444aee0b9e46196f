use Rattle.std.proofs.Common.{◌≡◌, ◌++◌}
use Rattle.std.specs.Iterator.Adapters.{zip_first, zip_second}
use Rattle.std.specs.Vec.Iter.{into_iter_items}
use Rattle.cc_engine.specs.Ranked.{with_ranks}
use Rattle.cc_engine.proofs.gathering.finishing.with_ranks.Given as goal

abbrev pub invariant-loop-rank : goal.invariant-loop-rank
invariant-loop-rank l =
    l.all.items ++ with_ranks (into_iter_items (zip_first l.rank-iterator)) (into_iter_items (zip_second l.rank-iterator))
    ≡ with_ranks l.fn.ranks.items l.fn.candidates.items
