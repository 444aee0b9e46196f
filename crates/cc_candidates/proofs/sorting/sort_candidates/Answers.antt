use Rattle.std.proofs.lemmas.List.Sorted.{ranks_by}
use Rattle.cc_base.proofs.Sorted.{sorted_is}
use Rattle.cc_candidates.specs.Candidate.{candidate_cmp_total, comes_before}
use Rattle.cc_candidates.proofs.sorting.sort_candidates.Goals as goal

pub returns : goal.returns
returns c =
    sorted_is comes_before (ranks_by candidate_cmp_total (λ candidate. candidate))
    c.args.candidates.now.items c.sort.new.self.items
    c.in_ok-sort.ensures.sorted c.in_ok-sort.ensures.stable
