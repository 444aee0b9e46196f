-- Finishing does not change candidates that differ only in their values.
use Rattle.std.proofs.Common.{◌≡◌, ◌∙◌, ap, refl, ℕ, List, [], ◌∷◌, Bool, false, not, None, map, filter, inl, inr}
use Rattle.std.proofs.lemmas.Bool.{cases_Bool}
use Rattle.std.specs.List.{list_any}
use Rattle.std.proofs.lemmas.Cmp.{nat_cmp_total, tied_itself}
use Rattle.clap_complete.specs.cc_base.Sorting.{in_order, insert}
use Rattle.clap_complete.specs.cc_candidates.declared.candidate.CompletionCandidate.{CompletionCandidate}
use Rattle.clap_complete.specs.cc_engine.Finished.{comes_before, finish, first_of_ids, group, is_shown, rank_of, share, shown_or_all}
use Rattle.cc_caller.specs.KnownNames.{tool_candidate}

all_shown : (names : List (List ℕ)) → filter is_shown (map tool_candidate names) ≡ map tool_candidate names
all_shown [] = refl
all_shown (name ∷ names) = ap (λ cs. tool_candidate name ∷ cs) (all_shown names)

shown_same : (names : List (List ℕ)) → shown_or_all (map tool_candidate names) ≡ map tool_candidate names
unfolding shown_or_all
shown_same names = elim (cases_Bool (list_any is_shown (map tool_candidate names))) [ inl t ↦ rw t (all_shown names) | inr f ↦ rw f refl ]

none_shared : (cs : List CompletionCandidate) → filter (λ d. not (share None d.id)) cs ≡ cs
none_shared [] = refl
none_shared (c ∷ cs) = ap (λ ds. c ∷ ds) (none_shared cs)

ids_same : (names : List (List ℕ)) → first_of_ids (map tool_candidate names) ≡ map tool_candidate names
ids_same [] = refl
ids_same (name ∷ names) =
    ap (λ cs. tool_candidate name ∷ cs) (none_shared (first_of_ids (map tool_candidate names)) ∙ ids_same names)

alike : (cs : List CompletionCandidate) (one other : List ℕ) → comes_before cs (tool_candidate one) (tool_candidate other) ≡ false
alike cs one other = rw (tied_itself nat_cmp_total (rank_of cs (tool_candidate one).tag)) refl

order_same : (below : CompletionCandidate → CompletionCandidate → Bool) → ((one other : List ℕ) → below (tool_candidate one) (tool_candidate other) ≡ false)
    → (names : List (List ℕ)) → in_order below (map tool_candidate names) ≡ map tool_candidate names
unfolding in_order insert
order_same below tie [] = refl
order_same below tie (name ∷ names) = ap (insert below (tool_candidate name)) (order_same below tie names) ∙ first names
  where
    first : (later : List (List ℕ)) → insert below (tool_candidate name) (map tool_candidate later) ≡ tool_candidate name ∷ map tool_candidate later
    first [] = refl
    first (other ∷ later) = rw (tie other name) refl

pub finished_same : (names : List (List ℕ)) → finish (map tool_candidate names) ≡ map tool_candidate names
unfolding finish group
finished_same names =
    ap (λ cs. group (first_of_ids cs)) (shown_same names)
    ∙ ap group (ids_same names)
    ∙ order_same (comes_before (map tool_candidate names)) (alike (map tool_candidate names)) names
