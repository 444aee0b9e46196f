-- The final list of the gathered candidates.
use Rattle.std.specs.Prelude.{◌≡◌, ℕ, suc, List, [], ◌∷◌, Bool, true, false, not, Option, Some, None, filter, bytes_eq, if◌then◌else◌}
use Rattle.std.specs.List.{list_any, AllByRecursion}
use Rattle.std.specs.List.Sorted.{IsSortedBy, IsStableBy}
use Rattle.std.specs.Option.{option_eq, option_cmp}
use Rattle.std.specs.Ordering.{is_lt, nat_cmp, ordering_then}
use Rattle.cc_base.specs.Sorting.{in_order}
use Rattle.cc_candidates.specs.declared.candidate.CompletionCandidate.{CompletionCandidate}

-- the candidate is not hidden
abbrev pub is_shown : CompletionCandidate → Bool
is_shown c = not c.hidden

-- the visible candidates, or all if none is visible
unfoldable pub shown_or_all : List CompletionCandidate → List CompletionCandidate
shown_or_all cs = if list_any is_shown cs then filter is_shown cs else cs

-- both exist and are equal
abbrev pub share : Option (List ℕ) → Option (List ℕ) → Bool
share (Some one) (Some other) = bytes_eq one other
share (Some one) None = false
share None other = false

-- the candidates whose id no earlier one has
abbrev pub first_of_ids : List CompletionCandidate → List CompletionCandidate
first_of_ids [] = []
first_of_ids (c ∷ cs) = c ∷ filter (λ d. not (share c.id d.id)) (first_of_ids cs)

-- the candidate has the tag; a missing tag counts as a tag of its own
abbrev pub has_tag : Option (List ℕ) → CompletionCandidate → Bool
has_tag tag c = option_eq bytes_eq c.tag tag

-- the rank of a tag: the number of candidates before the first with the tag
abbrev pub rank_of : List CompletionCandidate → Option (List ℕ) → ℕ
rank_of [] tag = 0
rank_of (c ∷ cs) tag = if has_tag tag c then 0 else suc (rank_of cs tag)

-- One comes before another: by the rank of the first candidate with its tag, then by display order,
-- where a missing display order comes first.
abbrev pub comes_before : List CompletionCandidate → CompletionCandidate → CompletionCandidate
    → Bool
comes_before cs one other =
    is_lt (ordering_then (nat_cmp (rank_of cs one.tag) (rank_of cs other.tag))
    (option_cmp nat_cmp one.display_order other.display_order))

-- grouped by tag, and by display order in each group; ties keep their order
unfoldable pub group : List CompletionCandidate → List CompletionCandidate
group cs = in_order (comes_before cs) cs

-- One list is the other, grouped. No candidate comes before an earlier one, and for each candidate
-- both lists have the same ties with it, in the same order.
pub record AreGrouped (cs grouped : List CompletionCandidate) : Type 0 where
  pub sorted : IsSortedBy (comes_before cs) grouped
  pub stable : IsStableBy (comes_before cs) cs grouped

-- the visible candidates if there are any, the first of each id, grouped
unfoldable pub finish : List CompletionCandidate → List CompletionCandidate
finish cs = group (first_of_ids (shown_or_all cs))

-- the candidate shares its id with none of these
abbrev pub SharesNone : CompletionCandidate → List CompletionCandidate → Type 0
SharesNone c ds = AllByRecursion (λ d. share c.id d.id ≡ false) ds

-- no candidate of one list shares its id with one of the other
abbrev pub ShareNone : List CompletionCandidate → List CompletionCandidate → Type 0
ShareNone cs ds = AllByRecursion (λ c. SharesNone c ds) cs

-- no two share an id
abbrev pub Differ : List CompletionCandidate → Type 0
Differ [] = Unit {0}
Differ (c ∷ cs) = SharesNone c cs × Differ cs

-- all are visible
abbrev pub AreShown : List CompletionCandidate → Type 0
AreShown cs = AllByRecursion (λ c. is_shown c ≡ true) cs
