-- The ids and tags of the candidates so far.
use Rattle.std.specs.Prelude.{ℕ, suc, ◌&&◌, List, [], ◌∷◌, Bool, true, false, Option, Some, None, if◌then◌else◌, option_map}
use Rattle.std.specs.BTreeSet.{BTreeSet, contains}
use Rattle.std.specs.Ordering.{is_lt, nat_cmp}
use Rattle.std.specs.Cmp.Lexicographic.{slice_cmp}
use Rattle.cc_candidates.specs.Candidate.{texts_cmp}
use Rattle.cc_candidates.specs.declared.candidate.CompletionCandidate.{CompletionCandidate}
use Rattle.cc_engine.specs.Finished.{has_tag}

-- there is an id, and the set contains it
abbrev pub is_seen : BTreeSet (List ℕ) → Option (List ℕ) → Bool
is_seen seen None = false
is_seen seen (Some id) = contains (slice_cmp nat_cmp) seen id

-- each id is greater than the one before it, and the first is greater than `last`
abbrev pub ascend_from : Option (List ℕ) → List CompletionCandidate → Bool
ascend_from last [] = true
ascend_from last (c ∷ cs) = is_lt (texts_cmp last c.id) && ascend_from c.id cs

-- the elements with a mark
abbrev pub select : {X : Type 0} → List Bool → List X → List X
select [] xs = []
select (mark ∷ marks) [] = []
select (mark ∷ marks) (x ∷ xs) = if mark then x ∷ select marks xs else select marks xs

-- the position at which a tag first occurs, if it does
abbrev pub first_rank : List CompletionCandidate → Option (List ℕ) → Option ℕ
first_rank [] tag = None
first_rank (c ∷ cs) tag = if has_tag tag c then Some 0 else option_map suc (first_rank cs tag)
