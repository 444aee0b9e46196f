use Rattle.std.proofs.Common.{ap}
use Rattle.std.specs.Prelude.{map, string_bytes}
use Rattle.cc_engine.proofs.Laws.{candidates_differ}
use Rattle.cc_engine.proofs.Completing.{completes, completes_words}
use Rattle.cc_engine.proofs.completion.complete_from.Goals as goal

pub returns-clause-candidates : goal.returns-clause-candidates
returns-clause-candidates g c =
    completes_words _ _ _ _ c.args.index _ (ap (map string_bytes) c.as_slice.ensures.value)
    (completes _ _ _ _ _ _ _ _ c.place_at-place.ensures c.in_ok-offer_candidates.ensures)

pub returns-clause-differ : goal.returns-clause-differ
returns-clause-differ g c =
    candidates_differ _ _ _ _ _ (completes _ _ _ _ _ _ _ _ c.place_at-place.ensures c.in_ok-offer_candidates.ensures)
