-- A source that is added last gets the next number, and no other number changes.
use Rattle.std.proofs.Common.{◌≡◌, ◌≢◌, ◌↔◌, ◌+◌, ◌-◌, ◌≤◌, ◌++◌, ℕ, suc, List, [], ◌∷◌, Option, Some, None, MatchOption, length, refl, ap, sym, ◌∙◌, subst, arith, zero}
use Rattle.std.specs.Prelude.{slice_get}
use Rattle.std.proofs.lemmas.Option.{MatchOption-at_none, MatchOption-at_some, slice_get_past}
use Rattle.cc_candidates.specs.declared.candidate.CompletionCandidate.{CompletionCandidate}
use Rattle.cc_candidates.specs.declared.sources.Source.{Source}
use Rattle.cc_candidates.specs.Sources.{Adds, ReturnsAt, SourceReturns}

-- the other items stay the same
others_stay : {X : Type 0} (xs : List X) (x : X) (n : ℕ) → n ≢ length xs
    → slice_get (xs ++ x ∷ []) n ≡ slice_get xs n
others_stay [] x zero differs = absurd (differs refl)
others_stay [] x (suc n) differs = refl
others_stay (y ∷ ys) x zero differs = refl
others_stay (y ∷ ys) x (suc n) differs = others_stay ys x n (λ same. differs (ap suc same))

-- the last item is the added one
last_item : {X : Type 0} (xs : List X) (x : X) → slice_get (xs ++ x ∷ []) (length xs) ≡ Some x
last_item [] x = refl
last_item (y ∷ ys) x = last_item ys x

-- a missing item is past the end
past_end : {X : Type 0} (xs : List X) (n : ℕ) → slice_get xs n ≡ None → length xs ≤ n
past_end [] n none = omega arith
past_end (x ∷ xs) zero none = cc
past_end (x ∷ xs) (suc n) none = let shorter = past_end xs n none in omega (arith, shorter)

-- two matches that differ only in the case without an item
by_none : {X : Type 0} (o : Option X) (P P' : Type 0) (Q : X → Type 0) → (o ≡ None → P ↔ P')
    → MatchOption o P Q ↔ MatchOption o P' Q
by_none None P P' Q same = same refl
by_none (Some x) P P' Q same = (λ h. h, λ h. h)

-- an added source has the next number
at_next : {B C : Type 0} (Boxes : B → List CompletionCandidate → Type 0)
    (Closures : C → List CompletionCandidate → Type 0) (first : List B)
    (added : List (Source B C)) (source : Source B C) (number : ℕ)
    → number ≡ length first + length added
    → Adds (ReturnsAt Boxes Closures first added)
    (ReturnsAt Boxes Closures first (added ++ source ∷ [])) number
    (SourceReturns Boxes Closures source)
at_next {B} {C} Boxes Closures first added source number is =
    let Returns : List CompletionCandidate → Source B C → Type 0 =
    λ list s. SourceReturns Boxes Closures s list in
    let past : slice_get first number ≡ None = slice_get_past first number (omega (arith, is)) in
    let at_end : number - length first ≡ length added = omega (arith, is) in
    let last : slice_get (added ++ source ∷ []) (number - length first) ≡ Some source =
    ap (slice_get (added ++ source ∷ [])) at_end ∙ last_item added source in
    let free : slice_get added (number - length first) ≡ None =
    slice_get_past added (number - length first) (omega (arith, at_end)) in
    record {
      was_free = λ list returned.
          MatchOption-at_none _ _ free (MatchOption-at_none _ _ past returned);
      is_item = λ list. (
        λ returned. MatchOption-at_some _ _ source last (MatchOption-at_none _ _ past returned),
        λ returned. subst (λ (o : Option B). MatchOption o (MatchOption (slice_get (added ++ source ∷ []) (number - length first)) (list ≡ []) (Returns list)) (λ item. Boxes item list)) (sym past)
            (subst (λ (o : Option (Source B C)). MatchOption o (list ≡ []) (Returns list)) (sym last) returned),
      );
      kept = λ other differs list. by_none (slice_get first other) _ _ _ (λ none.
          let low : length first ≤ other = past_end first other none in
          let same : slice_get (added ++ source ∷ []) (other - length first)
          ≡ slice_get added (other - length first) =
          others_stay added source (other - length first)
          (λ equal. differs (omega (arith, is, low, equal))) in (
            subst (λ (o : Option (Source B C)). MatchOption o (list ≡ []) (Returns list)) same,
            subst (λ (o : Option (Source B C)). MatchOption o (list ≡ []) (Returns list)) (sym same),
          ));
    }

pub added_last : {B C : Type 0} (Boxes : B → List CompletionCandidate → Type 0)
    (Closures : C → List CompletionCandidate → Type 0) (first : List B)
    (added after : List (Source B C)) (source : Source B C) (number : ℕ)
    → after ≡ added ++ source ∷ [] → number ≡ length first + length added
    → Adds (ReturnsAt Boxes Closures first added) (ReturnsAt Boxes Closures first after) number
    (SourceReturns Boxes Closures source)
added_last Boxes Closures first added after source number is at =
    subst (λ (sources : List _). Adds (ReturnsAt Boxes Closures first added)
    (ReturnsAt Boxes Closures first sources) number (SourceReturns Boxes Closures source))
    (sym is) (at_next Boxes Closures first added source number at)
