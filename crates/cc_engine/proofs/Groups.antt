-- The result of sorting candidates with their ranks.
use Rattle.std.proofs.Common.{◌≡◌, ◌⊎◌, inl, inr, ℕ, List, [], ◌∷◌, map, refl, ◌∙◌, ap, sym}
use Rattle.std.specs.Cmp.{IsStrictWeakOrder, on_total, then_total, nat_cmp_total}
use Rattle.std.specs.Cmp.Lexicographic.{options_total}
use Rattle.std.specs.List.Sorted.{IsSortedBy, IsStableBy}
use Rattle.std.proofs.lemmas.List.Sorted.{ranks_by}
use Rattle.cc_candidates.specs.declared.candidate.CompletionCandidate.{CompletionCandidate}
use Rattle.cc_engine.specs.declared.gathering.finishing.Ranked.{Ranked}
use Rattle.cc_engine.specs.Finished.{rank_of, comes_before, group}
use Rattle.cc_engine.specs.Ranked.{with_ranks, ranked_before}
use Rattle.cc_base.specs.Sorting.{in_order}
use Rattle.cc_base.proofs.Sorted.{sorted_is, map-in_order}

-- a candidate with the rank of its tag in a list
abbrev ranked_in : List CompletionCandidate → CompletionCandidate → Ranked
ranked_in cs c = record { rank = rank_of cs c.tag; candidate = c }

pub order : IsStrictWeakOrder ranked_before
order = ranks_by (then_total (on_total (λ (p : Ranked). p.rank) nat_cmp_total)
    (on_total (λ (p : Ranked). p.candidate.display_order) (options_total nat_cmp_total))) (λ p. p)

back : (cs xs : List CompletionCandidate) → map (λ p. p.candidate) (map (ranked_in cs) xs) ≡ xs
back cs [] = refl
back cs (x ∷ xs) = ap (λ rest. x ∷ rest) (back cs xs)

ranked_each : (cs xs : List CompletionCandidate) → with_ranks (map (λ c. rank_of cs c.tag) xs) xs ≡ map (ranked_in cs) xs
ranked_each cs [] = refl
ranked_each cs (x ∷ xs) = ap (λ rest. ranked_in cs x ∷ rest) (ranked_each cs xs)

pub ranks_end : (ranks : List ℕ) (cs : List CompletionCandidate) → (ranks ≡ []) ⊎ (cs ≡ []) → with_ranks ranks cs ≡ []
ranks_end ranks cs (inl e) = ap (λ ps. with_ranks ps cs) e
ranks_end [] cs (inr e) = refl
ranks_end (p ∷ ps) cs (inr e) = ap (with_ranks (p ∷ ps)) e

-- the result of a stable sort of the ranked candidates
pub grouped_from : (cs slice : List CompletionCandidate) (ranks : List ℕ) (ps qs : List Ranked) → slice ≡ cs →
    ranks ≡ map (λ c. rank_of slice c.tag) slice → ps ≡ with_ranks ranks cs
    → IsSortedBy ranked_before qs → IsStableBy ranked_before ps qs → map (λ p. p.candidate) qs ≡ group cs
unfolding group
grouped_from cs slice ranks ps qs same value all sorted stable =
    let is : ps ≡ map (ranked_in cs) cs =
    all ∙ ap (λ l. with_ranks l cs) (value ∙ ap (λ (xs : List CompletionCandidate). map (λ c. rank_of xs c.tag) xs) same) ∙ ranked_each cs cs in
    ap (map (λ p. p.candidate)) (sorted_is ranked_before order ps qs sorted stable
    ∙ ap (in_order ranked_before) is ∙ sym (map-in_order (ranked_in cs) ranked_before cs))
    ∙ back cs (in_order (comes_before cs) cs)
