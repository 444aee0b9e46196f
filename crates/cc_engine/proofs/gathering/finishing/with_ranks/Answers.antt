use Rattle.std.proofs.Common.{ap, sym, ◌∙◌, ◌++◌, append-nil}
use Rattle.std.specs.Iterator.Adapters.{zip_first, zip_second}
use Rattle.std.specs.Vec.Iter.{into_iter_items}
use Rattle.cc_engine.proofs.Groups.{ranks_end}
use Rattle.cc_engine.proofs.Zips.{zip_end}
use Rattle.cc_engine.proofs.gathering.finishing.with_ranks.Goals as goal

pub returns : goal.returns
returns c =
    let first = zip_first c.loop-rank.rank-iterator in
    let second = zip_second c.loop-rank.rank-iterator in
    sym (append-nil c.loop-rank.all.items)
    ∙ ap (λ r. c.loop-rank.all.items ++ r) (sym (ranks_end (into_iter_items first) (into_iter_items second) (zip_end first second c.in-None.ensures.steps)))
    ∙ c.loop-rank.invariant
