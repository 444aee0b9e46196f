-- The laws that every result keeps.
use Rattle.std.proofs.Common.{◌≡◌, ◌∙◌, refl, subst, sym, ℕ, List, [], ◌++◌}
use Rattle.std.specs.Prelude.{Bool, true, false, ◌||◌, get_or}
use Rattle.std.specs.List.{list_any}
use Rattle.std.proofs.lemmas.List.Folds.{list_any-append}
use Rattle.cc_candidates.specs.declared.candidate.CompletionCandidate.{CompletionCandidate}
use Rattle.cc_command.specs.Tree.{Tree}
use Rattle.cc_engine.specs.Finished.{AreGrouped, AreShown, Differ, finish, first_of_ids, is_shown, shown_or_all}
use Rattle.cc_engine.proofs.FinishingLaws.{differ, order, some_visible, visible}
use Rattle.cc_engine.specs.Values.{MayReturn}
use Rattle.cc_engine.specs.declared.walking.state.State.{State}
use Rattle.cc_engine.specs.Completion.{Completes, Returned, IsSorted, ShowsVisible, candidates_for, besides, finished_last, opened_values}
use Rattle.cc_engine.proofs.OneFinishing.{to_gathered}

abbrev Candidates : Type 0
Candidates = List CompletionCandidate

-- NO TWO SHARE AN ID

-- what is offered for a word
pub candidates_differ : (sources : MayReturn) (root : Tree) (words : List (List ℕ)) (index : ℕ) (found : Candidates)
    → Completes sources root words index found → Differ found
candidates_differ sources root words index found completes =
    subst Differ (sym completes.offers.2) (differ (finished_last completes.state.pending (get_or words index []) completes.offers.0.opened
    (besides completes.tree completes.state (get_or words index []) completes.offers.0)))

-- WHERE A VISIBLE ONE IS GATHERED, NO HIDDEN ONE IS RETURNED

-- if either list has a visible candidate, one is left after the second list is finished
any_after : (opened others : Candidates) → list_any is_shown (opened ++ others) ≡ true → list_any is_shown (opened ++ finish others) ≡ true
any_after opened others e =
    list_any-append is_shown opened (finish others)
    ∙ by (list_any is_shown opened) (list_any is_shown others) refl (sym (list_any-append is_shown opened others) ∙ e)
  where
    by : (x y : Bool) → list_any is_shown others ≡ y → (x || y) ≡ true → (x || list_any is_shown (finish others)) ≡ true
    by true y is e = refl
    by false y is e = some_visible others (is ∙ e)

pub shows_visible : (tree : Tree) (state : State) (word : List ℕ) (returned : Returned) (found : Candidates)
    → found ≡ candidates_for tree state word returned → ShowsVisible tree state word returned found
shows_visible tree state word returned found is any = subst AreShown (sym is)
    (visible (finished_last state.pending word returned.opened (besides tree state word returned))
    (to_gathered (λ xs ys. list_any is_shown ys ≡ true → list_any is_shown xs ≡ true) (λ xs e. e) tree state.position state.escaped word returned state.pending
    (any_after (opened_values state.pending word returned.opened) (besides tree state word returned)) any))

-- THE RESULT IS SORTED

pub is_sorted : (tree : Tree) (state : State) (word : List ℕ) (returned : Returned) (found : Candidates)
    → found ≡ candidates_for tree state word returned → IsSorted tree state word returned found
is_sorted tree state word returned found is =
    let others : Candidates = besides tree state word returned in
    let all : Candidates = finished_last state.pending word returned.opened others in
    (subst (AreGrouped (first_of_ids (shown_or_all all))) (sym is) (order all), order others)
