-- The first candidate of each id, in joined lists.
use Rattle.std.proofs.Common.{◌≡◌, ℕ, List, [], ◌∷◌, ◌++◌, Bool, true, false, cond, not, Option, Some, None, inl, inr, refl, ap, sym, ◌∙◌}
use Rattle.std.specs.Prelude.{filter}
use Rattle.std.specs.List.{AllByRecursion}
use Rattle.std.proofs.lemmas.List.Elements.{filter-append, filter_passes, recursion_from_All}
use Rattle.cc_candidates.specs.declared.candidate.CompletionCandidate.{CompletionCandidate}
use Rattle.std.specs.Str.{bytes_eq}
use Rattle.std.specs.Ordering.{is_eq}
use Rattle.std.specs.Cmp.Lexicographic.{texts_ties, same_text, nat_list_cmp_total}
use Rattle.std.proofs.lemmas.Cmp.{tied_itself}
use Rattle.std.proofs.lemmas.Bool.{cases_Bool, not-true}
use Rattle.cc_base.specs.Sorting.{insert, in_order}
use Rattle.cc_base.proofs.Members.{AllByRecursion-filter, AllByRecursion-weaker}
use Rattle.cc_base.proofs.Sorted.{AllByRecursion-in_order}
use Rattle.cc_engine.specs.Finished.{share, first_of_ids, SharesNone, ShareNone, Differ}

kept_all : (c : CompletionCandidate) (ds : List CompletionCandidate) → SharesNone c ds → filter (λ d. not (share c.id d.id)) ds ≡ ds
kept_all c [] h = refl
kept_all c (d ∷ ds) h = let e = h.0 in rw e (ap (λ r. d ∷ r) (kept_all c ds h.1))

-- a property of all candidates holds for the first of each id
pub all-first_of_ids : (P : CompletionCandidate → Type 0) (cs : List CompletionCandidate) → AllByRecursion P cs → AllByRecursion P (first_of_ids cs)
all-first_of_ids P [] h = tt
all-first_of_ids P (c ∷ cs) h = (h.0, AllByRecursion-filter P (λ d. not (share c.id d.id)) (first_of_ids cs) (all-first_of_ids P cs h.1))

-- if the two lists share no id, each is filtered by itself
pub first_of_ids-append : (cs ds : List CompletionCandidate) → ShareNone cs ds →
    first_of_ids (cs ++ ds) ≡ first_of_ids cs ++ first_of_ids ds
first_of_ids-append [] ds h = refl
first_of_ids-append (c ∷ cs) ds h =
    ap (λ r. c ∷ filter (λ d. not (share c.id d.id)) r) (first_of_ids-append cs ds h.1)
    ∙ ap (λ r. c ∷ r) (filter-append (λ d. not (share c.id d.id)) (first_of_ids cs) (first_of_ids ds)
    ∙ ap (λ r. filter (λ d. not (share c.id d.id)) (first_of_ids cs) ++ r) (kept_all c (first_of_ids ds) (all-first_of_ids (λ d. share c.id d.id ≡ false) ds h.0)))

differ_filter : (p : CompletionCandidate → Bool) (cs : List CompletionCandidate) → Differ cs → Differ (filter p cs)
differ_filter p [] h = tt
differ_filter p (c ∷ cs) h = by (p c) (differ_filter p cs h.1)
  where
    by : (b : Bool) → Differ (filter p cs) → Differ (cond b (c ∷ filter p cs) (filter p cs))
    by true r = (AllByRecursion-filter (λ d. share c.id d.id ≡ false) p cs h.0, r)
    by false r = r

pub passing : {X : Type 0} (p : X → Bool) (xs : List X) → AllByRecursion (λ x. p x ≡ true) (filter p xs)
passing p xs = recursion_from_All (λ x. p x ≡ true) (filter p xs) (filter_passes p xs)

none_left : (c : CompletionCandidate) (cs : List CompletionCandidate) → SharesNone c (filter (λ d. not (share c.id d.id)) cs)
none_left c cs =
    AllByRecursion-weaker (λ d. not (share c.id d.id) ≡ true) (λ d. share c.id d.id ≡ false) (λ d. not-true (share c.id d.id))
    (filter (λ d. not (share c.id d.id)) cs) (passing (λ d. not (share c.id d.id)) cs)

pub first_of_ids-differ : (cs : List CompletionCandidate) → Differ (first_of_ids cs)
first_of_ids-differ [] = tt
first_of_ids-differ (c ∷ cs) = (none_left c (first_of_ids cs), differ_filter (λ d. not (share c.id d.id)) (first_of_ids cs) (first_of_ids-differ cs))

-- a list without repeated ids stays the same
pub first_of_ids-stays : (cs : List CompletionCandidate) → Differ cs → first_of_ids cs ≡ cs
first_of_ids-stays [] h = refl
first_of_ids-stays (c ∷ cs) h = ap (λ r. c ∷ filter (λ d. not (share c.id d.id)) r) (first_of_ids-stays cs h.1) ∙ ap (λ r. c ∷ r) (kept_all c cs h.0)

-- sharing an id is symmetric
share_back : (a b : Option (List ℕ)) → share a b ≡ false → share b a ≡ false
share_back None None h = refl
share_back (Some x) (Some y) h = elim (cases_Bool (bytes_eq y x)) [
  | inl t ↦
      let is : x ≡ y = sym (same_text y x (sym t)) in
      let same : bytes_eq x x ≡ true = texts_ties x x ∙ ap is_eq (tied_itself nat_list_cmp_total x) in
      let no : true ≡ false = sym same ∙ ap (bytes_eq x) is ∙ h in cc
  | inr f ↦ f
]
share_back a b h = refl

all-insert : {X : Type 0} (P : X → Type 0) (by : X → X → Bool) (x : X) (ys : List X) → P x → AllByRecursion P ys → AllByRecursion P (insert by x ys)
unfolding insert
all-insert P by x [] p h = (p, tt)
all-insert P by x (y ∷ ys) p h = elim (cases_Bool (by y x)) [
  | inl t ↦ rw t (h.0, all-insert P by x ys p h.1)
  | inr f ↦ rw f (p, h)
]

differ-insert : (by : CompletionCandidate → CompletionCandidate → Bool) (x : CompletionCandidate) (ys : List CompletionCandidate) →
    Differ (x ∷ ys) → Differ (insert by x ys)
unfolding insert
differ-insert by x [] h = h
differ-insert by x (y ∷ ys) h = elim (cases_Bool (by y x)) [
  | inl t ↦ rw t (
    all-insert (λ d. share y.id d.id ≡ false) by x ys (share_back x.id y.id h.0.0) h.1.0,
    differ-insert by x ys (h.0.1, h.1.1),
  )
  | inr f ↦ rw f h
]

pub differ-in_order : (by : CompletionCandidate → CompletionCandidate → Bool) (cs : List CompletionCandidate) → Differ cs → Differ (in_order by cs)
unfolding in_order
differ-in_order by [] h = tt
differ-in_order by (c ∷ cs) h =
    differ-insert by c (in_order by cs) (AllByRecursion-in_order by (λ d. share c.id d.id ≡ false) cs h.0, differ-in_order by cs h.1)
