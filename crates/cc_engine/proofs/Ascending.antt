-- Candidates with ascending ids share none.
use Rattle.std.proofs.Common.{◌≡◌, ◌∙◌, ℕ, true, false, List, [], ◌∷◌, Option, Some, None, ap, refl, Ordering, Less}
use Rattle.std.specs.Cmp.{IsTotalOrder}
use Rattle.std.specs.Cmp.Lexicographic.{nat_list_cmp_total, options_total, texts_ties}
use Rattle.std.specs.List.{AllByRecursion}
use Rattle.std.specs.Ordering.{is_eq, is_lt}
use Rattle.std.proofs.lemmas.Bool.{and_parts}
use Rattle.cc_candidates.specs.Candidate.{texts_cmp}
use Rattle.cc_candidates.specs.declared.candidate.CompletionCandidate.{CompletionCandidate}
use Rattle.cc_engine.specs.Finished.{first_of_ids, share, Differ, SharesNone}
use Rattle.cc_engine.specs.Seen.{ascend_from}
use Rattle.cc_engine.proofs.FirstOfIds.{first_of_ids-stays}

texts_total : IsTotalOrder texts_cmp
texts_total = options_total nat_list_cmp_total

less : (o : Ordering) → is_lt o ≡ true → o ≡ Less
less Less h = refl
less _ h = cc

-- the ids come after this one
abbrev AreAfter : Option (List ℕ) → List CompletionCandidate → Type 0
AreAfter id cs = AllByRecursion (λ c. texts_cmp id c.id ≡ Less) cs

after_earlier : (one other : Option (List ℕ)) (cs : List CompletionCandidate)
    → texts_cmp one other ≡ Less → AreAfter other cs → AreAfter one cs
after_earlier one other [] before h = tt
after_earlier one other (c ∷ cs) before h =
    (texts_total.trans one other c.id before h.0, after_earlier one other cs before h.1)

ascending_after : (last : Option (List ℕ)) (cs : List CompletionCandidate)
    → ascend_from last cs ≡ true → AreAfter last cs
ascending_after last [] h = tt
ascending_after last (c ∷ cs) h =
    let parts = and_parts (is_lt (texts_cmp last c.id)) (ascend_from c.id cs) h in
    let before = less (texts_cmp last c.id) parts.0 in
    (before, after_earlier last c.id cs before (ascending_after c.id cs parts.1))

apart : (one other : Option (List ℕ)) → texts_cmp one other ≡ Less → share one other ≡ false
apart None other h = refl
apart (Some one) None h = refl
apart (Some one) (Some other) h = texts_ties one other ∙ ap is_eq h

shares_none : (c : CompletionCandidate) (cs : List CompletionCandidate)
    → AreAfter c.id cs → SharesNone c cs
shares_none c [] h = tt
shares_none c (d ∷ ds) h = (apart c.id d.id h.0, shares_none c ds h.1)

ascending_differ : (last : Option (List ℕ)) (cs : List CompletionCandidate)
    → ascend_from last cs ≡ true → Differ cs
ascending_differ last [] h = tt
ascending_differ last (c ∷ cs) h =
    let rest = (and_parts (is_lt (texts_cmp last c.id)) (ascend_from c.id cs) h).1 in
    (shares_none c cs (ascending_after c.id cs rest), ascending_differ c.id cs rest)

pub ascending_stay : (cs : List CompletionCandidate)
    → ascend_from None cs ≡ true → first_of_ids cs ≡ cs
ascending_stay cs h = first_of_ids-stays cs (ascending_differ None cs h)
