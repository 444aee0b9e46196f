use Rattle.std.proofs.Common.{◌∙◌}
use Rattle.complgen_plans.proofs.PlanLemmas.{ends_candidates, ends_with_values}
use Rattle.complgen_plans.proofs.plans.carry_out.Goals as goal

pub returns-in-Candidates-clause-ends : goal.returns-in-Candidates-clause-ends
returns-in-Candidates-clause-ends g c =
    ends_candidates _ _ _ _ _ _ _ _ _ _ _ _ _ _ _ c.in-Candidates.is
    (c.word_at-word.ensures.words ∙ c.as_slice.ensures.value) c.word_at-word.ensures.index
    c.and-in-Candidates.ensures c.reply.ensures

pub returns-in-CandidatesWith-clause-ends : goal.returns-in-CandidatesWith-clause-ends
returns-in-CandidatesWith-clause-ends g c =
    ends_with_values _ _ _ _ _ _ _ _ _ _ _ _ _ _ _ _ _ c.in-CandidatesWith.is
    c.as_str-in-CandidatesWith.ensures.value
    (c.word_at-word-in-CandidatesWith.ensures.words
    ∙ c.as_slice-in-CandidatesWith.ensures.value)
    c.word_at-word-in-CandidatesWith.ensures.index c.and-in-CandidatesWith.ensures
    c.write_candidates.ensures
