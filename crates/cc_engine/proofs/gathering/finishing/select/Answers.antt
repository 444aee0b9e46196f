use Rattle.std.proofs.Common.{ap, sym, ◌∙◌, ◌++◌, append-nil}
use Rattle.std.specs.Iterator.Adapters.{zip_first, zip_second}
use Rattle.std.specs.Vec.Iter.{into_iter_items}
use Rattle.cc_engine.proofs.InTurn.{marked_end}
use Rattle.cc_engine.proofs.Zips.{zip_end}
use Rattle.cc_engine.proofs.gathering.finishing.select.Goals as goal

pub returns : goal.returns
returns c =
    let first = zip_first c.loop-mark.mark-iterator in
    let second = zip_second c.loop-mark.mark-iterator in
    sym (append-nil c.loop-mark.kept.items)
    ∙ ap (λ r. c.loop-mark.kept.items ++ r) (sym (marked_end (into_iter_items first) (into_iter_items second) (zip_end first second c.in-None.ensures.steps)))
    ∙ c.loop-mark.invariant
