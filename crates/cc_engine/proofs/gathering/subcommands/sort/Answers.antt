use Rattle.std.proofs.Common.{ap, ◌∙◌}
use Rattle.std.specs.List.{dedup}
use Rattle.std.specs.Ordering.{eq_by_cmp}
use Rattle.std.proofs.lemmas.List.Filters.{dedup_is}
use Rattle.cc_candidates.specs.Candidate.{candidate_cmp}
use Rattle.cc_engine.specs.Children.{in_candidates_order}
use Rattle.cc_engine.proofs.gathering.subcommands.sort.Goals as goal

pub returns : goal.returns
unfolding in_candidates_order
returns c =
    dedup_is (eq_by_cmp candidate_cmp) c.sort_candidates.new.candidates.items c.dedup.new.self.items c.dedup.ensures.filtered
    ∙ ap (dedup (eq_by_cmp candidate_cmp)) c.in_ok-sort_candidates.ensures
