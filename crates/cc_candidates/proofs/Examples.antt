-- Examples of the lists that may be returned at a number.
use Rattle.std.proofs.Common.{◌≡◌, List, [], ◌∷◌}
use Rattle.cc_candidates.specs.declared.candidate.CompletionCandidate.{CompletionCandidate}
use Rattle.cc_candidates.specs.declared.sources.Source.{Source}
use Rattle.cc_candidates.specs.declared.sources.Source.TheVariants.{Boxed, Closure}
use Rattle.cc_candidates.specs.Sources.{ReturnsAt}

-- a number past the end has no candidates
past_the_list : {B C : Type 0} (Boxes : B → List CompletionCandidate → Type 0)
    (Closures : C → List CompletionCandidate → Type 0) (one other : Source B C)
    (found : List CompletionCandidate)
    → ReturnsAt Boxes Closures [] (one ∷ other ∷ []) 7 found → found ≡ []
past_the_list Boxes Closures one other found returned = returned

-- a trait object that is added after a closure has the number 1
after_a_closure : {B C : Type 0} (Boxes : B → List CompletionCandidate → Type 0)
    (Closures : C → List CompletionCandidate → Type 0) (item : B) (closure : C)
    (found : List CompletionCandidate)
    → ReturnsAt Boxes Closures [] (Closure closure ∷ Boxed item ∷ []) 1 found → Boxes item found
after_a_closure Boxes Closures item closure found returned = returned
