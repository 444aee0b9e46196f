-- The candidates that completers and lists may return, by number.
use Rattle.std.specs.Prelude.{◌≡◌, ◌≢◌, ◌↔◌, ℕ, ◌-◌, List, [], length, MatchOption, slice_get}
use Rattle.cc_candidates.specs.declared.candidate.CompletionCandidate.{CompletionCandidate}
use Rattle.cc_candidates.specs.declared.sources.Source.{Source}
use Rattle.cc_candidates.specs.declared.sources.Source.TheVariants.{Boxed, Closure}

-- the candidates that a source may return, given relations for trait objects and for closures
abbrev pub SourceReturns : {B C : Type 0} → (B → List CompletionCandidate → Type 0)
    → (C → List CompletionCandidate → Type 0) → Source B C → List CompletionCandidate → Type 0
SourceReturns Boxes Closures (Boxed item) list = Boxes item list
SourceReturns Boxes Closures (Closure item) list = Closures item list

-- The candidates that the source with a number may return. Sources that were added later are
-- numbered after the trait objects that were there first. A number without a source has no
-- candidates.
abbrev pub ReturnsAt : {B C : Type 0} → (B → List CompletionCandidate → Type 0)
    → (C → List CompletionCandidate → Type 0) → List B → List (Source B C) → ℕ
    → List CompletionCandidate → Type 0
ReturnsAt Boxes Closures first added number list =
    MatchOption (slice_get first number)
    (MatchOption (slice_get added (number - length first)) (list ≡ [])
    (λ source. SourceReturns Boxes Closures source list))
    (λ item. Boxes item list)

-- The number, which had no candidates before, now belongs to a source that may return the lists of
-- `Item`. Every other number may return the same lists as before.
pub record Adds (before after : ℕ → List CompletionCandidate → Type 0) (number : ℕ)
    (Item : List CompletionCandidate → Type 0) : Type 0 where
  pub was_free : (list : List CompletionCandidate) → before number list → list ≡ []
  pub is_item : (list : List CompletionCandidate) → after number list ↔ Item list
  pub kept : (other : ℕ) → other ≢ number → (list : List CompletionCandidate)
      → after other list ↔ before other list
