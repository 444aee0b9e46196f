use Rattle.std.proofs.Common.{◌≡◌, ◌++◌, map}
use Rattle.std.specs.Vec.Iter.{into_iter_items}
use Rattle.cc_engine.proofs.gathering.finishing.candidates_of.Given as goal

abbrev pub invariant-loop-one : goal.invariant-loop-one
invariant-loop-one l =
    l.candidates.items ++ map (λ one. one.candidate) (into_iter_items l.one-iterator)
    ≡ map (λ one. one.candidate) l.fn.all.items
