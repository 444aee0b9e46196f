-- Candidates with the ranks of their tags.
use Rattle.std.specs.Prelude.{ℕ, List, [], ◌∷◌, Bool}
use Rattle.std.specs.declared.cmp.Ordering.{Ordering}
use Rattle.std.specs.Option.{option_cmp}
use Rattle.std.specs.Ordering.{is_lt, nat_cmp, ordering_then}
use Rattle.cc_candidates.specs.declared.candidate.CompletionCandidate.{CompletionCandidate}
use Rattle.cc_engine.specs.declared.gathering.finishing.Ranked.{Ranked}

-- candidates, each with its rank
abbrev pub with_ranks : List ℕ → List CompletionCandidate → List Ranked
with_ranks [] cs = []
with_ranks (rank ∷ ranks) [] = []
with_ranks (rank ∷ ranks) (c ∷ cs) =
    (record { rank = rank; candidate = c }) ∷ with_ranks ranks cs

-- by rank, then by display order
abbrev pub ranked_cmp : Ranked → Ranked → Ordering
ranked_cmp one other =
    ordering_then (nat_cmp one.rank other.rank)
    (option_cmp nat_cmp one.candidate.display_order other.candidate.display_order)

abbrev pub ranked_before : Ranked → Ranked → Bool
ranked_before one other = is_lt (ranked_cmp one other)
