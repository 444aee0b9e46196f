-- A second `finish` of a final list changes nothing.
use Rattle.std.proofs.Common.{◌≡◌, ◌<◌, ◌≤◌, ◌⊎◌, List, [], ◌∷◌, ◌++◌, Bool, true, false, not, ◌||◌, cond, filter, refl, inl, inr, ap, ◌∙◌, sym, subst, arith}
use Rattle.std.specs.List.{AllByRecursion, list_any}
use Rattle.std.specs.List.Sorted.{ties}
use Rattle.std.specs.Option.{option_cmp}
use Rattle.std.specs.Ordering.{is_lt, nat_cmp, ordering_then}
use Rattle.std.proofs.Math.Bool.{or-true}
use Rattle.std.proofs.lemmas.Bool.{cases_Bool, cases_order, or_left, or_right}
use Rattle.std.proofs.lemmas.List.Elements.{All-from_recursion, filter-append}
use Rattle.std.proofs.lemmas.List.Folds.{list_any-append, list_any_none}
use Rattle.std.specs.Cmp.{IsStrictWeakOrder}
use Rattle.cc_base.specs.Sorting.{in_order, insert}
use Rattle.cc_base.proofs.Members.{AllByRecursion-IsIn, AllByRecursion-append, AllByRecursion-filter, AllByRecursion-from_IsIn}
use Rattle.cc_base.proofs.Sorted.{AllByRecursion-in_order, in_order-IsIn, in_order-sorted, stable-in_order, up-in_order, apart, one_order}
use Rattle.cc_candidates.specs.declared.candidate.CompletionCandidate.{CompletionCandidate}
use Rattle.cc_engine.specs.Finished.{is_shown, shown_or_all, share, has_tag, rank_of, first_of_ids, comes_before, group, finish, SharesNone, ShareNone, Differ, AreGrouped, AreShown}
use Rattle.cc_engine.proofs.Ranks.{Tag, Has, tag_itself, rank_front, rank_back, rank_below, rank_tag, ranks_rise, below, cmp_less, cmp_equal, cmp_greater}
use Rattle.cc_engine.proofs.FirstOfIds.{first_of_ids-append, first_of_ids-differ, first_of_ids-stays, differ-in_order, all-first_of_ids, passing}

-- More lemmas on sorted lists: when two tests sort alike, and how a filter affects the order.
module _ {X : Type 0} (lt : X → X → Bool) (o : IsStrictWeakOrder lt) where
  -- the list after another one may be sorted by another test first, if that keeps the order of ties
  pub sorted_after : (xs ys zs : List X) → ((z : X) → filter (ties lt z) ys ≡ filter (ties lt z) zs) → in_order lt (xs ++ ys) ≡ in_order lt (xs ++ zs)
  sorted_after xs ys zs same =
      one_order lt o (in_order lt (xs ++ ys)) (in_order lt (xs ++ zs)) (up-in_order lt o (xs ++ ys)) (up-in_order lt o (xs ++ zs))
      (λ z. stable-in_order lt o z (xs ++ ys) ∙ filter-append (ties lt z) xs ys ∙ ap (λ r. filter (ties lt z) xs ++ r) (same z)
      ∙ sym (filter-append (ties lt z) xs zs) ∙ sym (stable-in_order lt o z (xs ++ zs)))

-- two tests that agree on the members sort alike
module _ {X : Type 0} (P : X → Type 0) (lt by : X → X → Bool) (alike : (x y : X) → P x → P y → lt x y ≡ by x y) where
  insert-alike : (x : X) (ys : List X) → P x → AllByRecursion P ys → insert lt x ys ≡ insert by x ys
  unfolding insert
  insert-alike x [] p h = refl
  insert-alike x (y ∷ ys) p h =
      ap (λ r. cond (lt y x) (y ∷ r) (x ∷ y ∷ ys)) (insert-alike x ys p h.1)
      ∙ ap (λ b. cond b (y ∷ insert by x ys) (x ∷ y ∷ ys)) (alike y x h.0 p)

  pub in_order-alike : (xs : List X) → AllByRecursion P xs → in_order lt xs ≡ in_order by xs
  unfolding in_order
  in_order-alike [] h = refl
  in_order-alike (x ∷ xs) h =
      insert-alike x (in_order lt xs) h.0 (AllByRecursion-in_order lt P xs h.1) ∙ ap (insert by x) (in_order-alike xs h.1)

-- a filter ignores the order if no two elements that it keeps are ordered
module _ {X : Type 0} (P : X → Type 0) (by : X → X → Bool) (p : X → Bool)
    (alone : (x y : X) → P x → P y → by y x ≡ true → p x ≡ true → p y ≡ true → ⊥) where
  filter-insert : (x : X) (ys : List X) → P x → AllByRecursion P ys → filter p (insert by x ys) ≡ filter p (x ∷ ys)
  unfolding insert
  filter-insert x [] px all = refl
  filter-insert x (y ∷ ys) px all = elim (cases_Bool (by y x)) [
    | inl t ↦ rw t (ap (λ rest. cond (p y) (y ∷ rest) rest) (filter-insert x ys px all.1) ∙ order (p x) (p y) refl refl t)
    | inr f ↦ rw f
  ]
    where
      order : (a b : Bool) → p x ≡ a → p y ≡ b → by y x ≡ true
          → cond b (y ∷ cond a (x ∷ filter p ys) (filter p ys)) (cond a (x ∷ filter p ys) (filter p ys))
          ≡ cond a (x ∷ cond b (y ∷ filter p ys) (filter p ys)) (cond b (y ∷ filter p ys) (filter p ys))
      order true true e f t = absurd (alone x y px all.0 t e f)
      order true false e f t = refl
      order false true e f t = refl
      order false false e f t = refl

  pub filter-in_order : (xs : List X) → AllByRecursion P xs → filter p (in_order by xs) ≡ filter p xs
  unfolding in_order
  filter-in_order [] all = refl
  filter-in_order (x ∷ xs) all =
      filter-insert x (in_order by xs) all.0 (AllByRecursion-in_order by P xs all.1)
      ∙ ap (λ rest. cond (p x) (x ∷ rest) rest) (filter-in_order xs all.1)

abbrev Candidates : Type 0
Candidates = List CompletionCandidate

-- ---- each member's tag occurs

all_have : (v xs : Candidates) → ((t : Tag) → Has xs t → Has v t) → AllByRecursion (λ c. Has v c.tag) xs
all_have v [] sub = tt
all_have v (x ∷ xs) sub = (
  sub x.tag (or_left (has_tag x.tag x) (list_any (has_tag x.tag) xs) (tag_itself x.tag)),
  all_have v xs (λ t h. sub t (or_right (has_tag t x) (list_any (has_tag t) xs) h)),
)

has_back : (a v : Candidates) (t : Tag) → Has v t → Has (a ++ v) t
has_back a v t h = list_any-append (has_tag t) a v ∙ or_right (list_any (has_tag t) a) (list_any (has_tag t) v) h

has_front : (a v : Candidates) (t : Tag) → Has a t → Has (a ++ v) t
has_front a v t h = list_any-append (has_tag t) a v ∙ or_left (list_any (has_tag t) a) (list_any (has_tag t) v) h

-- a test that fails for each element passes for none
none_any : {X : Type 0} (p : X → Bool) (xs : List X) → AllByRecursion (λ x. p x ≡ false) xs → list_any p xs ≡ false
none_any p xs h = list_any_none p xs (All-from_recursion (λ x. p x ≡ false) xs h)

any_none : {X : Type 0} (p : X → Bool) (xs : List X) → list_any p xs ≡ false → AllByRecursion (λ x. p x ≡ false) xs
any_none p [] h = tt
any_none p (x ∷ xs) h = by (p x) refl h (any_none p xs)
  where
    by : (b : Bool) → p x ≡ b → (b || list_any p xs) ≡ false → (list_any p xs ≡ false → AllByRecursion (λ x. p x ≡ false) xs)
        → (p x ≡ false) × AllByRecursion (λ x. p x ≡ false) xs
    by true e h more = cc
    by false e h more = (e, more h)

any-in_order : {X : Type 0} (p : X → Bool) (by : X → X → Bool) (xs : List X) → list_any p xs ≡ true → list_any p (in_order by xs) ≡ true
any-in_order p by xs h = elim (cases_Bool (list_any p (in_order by xs))) [
  | inl y ↦ y
  | inr n ↦
      let none : list_any p xs ≡ false =
      none_any p xs (AllByRecursion-from_IsIn (λ x. p x ≡ false) xs
      (λ x at. AllByRecursion-IsIn (λ x. p x ≡ false) (in_order by xs) x (any_none p (in_order by xs) n) (in_order-IsIn by xs x at))) in
      cc
]

-- ---- a grouped list after another one

module _ (a v : Candidates) where
  abbrev sorted : Candidates
  sorted = in_order (comes_before v) v

  abbrev whole : Candidates
  whole = a ++ v

  abbrev twice : Candidates
  twice = a ++ sorted

  has_sorted : (t : Tag) → Has v t → Has sorted t
  has_sorted t h = any-in_order (has_tag t) (comes_before v) v h

  rise_back : (s t : Tag) → Has v s → Has v t → rank_of v s < rank_of v t → rank_of sorted s < rank_of sorted t
  rise_back s t hs ht less = elim (cases_order (rank_of sorted s) (rank_of sorted t)) [
    | inl e ↦ let same : s ≡ t = rank_tag sorted s t (has_sorted s hs) e in
        let no : rank_of v t < rank_of v t = rw same at less in absurd (omega (arith, no))
    | inr o ↦ elim o [
      | inl lt ↦ lt
      | inr gt ↦
          let no : rank_of v t ≤ rank_of v s = ranks_rise v sorted t s (up-in_order (comes_before v) (below v) v) (has_sorted t ht) (has_sorted s hs) gt in
          absurd (omega (arith, no, less))
    ]
  ]

  -- a tag that `a` lacks is in the list after it
  later_has : (t : Tag) → list_any (has_tag t) a ≡ false → Has whole t → Has v t
  later_has t lacks h = let e : (list_any (has_tag t) a || list_any (has_tag t) v) ≡ true = sym (list_any-append (has_tag t) a v) ∙ h in rw lacks at e

  -- ranks after `a` rise as they do in the list alone
  agree : (s t : Tag) → Has whole s → Has whole t → rank_of whole s < rank_of whole t → rank_of twice s < rank_of twice t
  agree s t hs ht less = elim (cases_Bool (list_any (has_tag s) a)) [
    | inl sa ↦ elim (cases_Bool (list_any (has_tag t) a)) [
      | inl ta ↦ let e1 = rank_front a v s sa in let e2 = rank_front a v t ta in let e3 = rank_front a sorted s sa in let e4 = rank_front a sorted t ta in omega (arith, e1, e2, e3, e4, less)
      | inr ta ↦ let e3 = rank_front a sorted s sa in let e4 = rank_back a sorted t ta in let in_a = rank_below a s sa in omega (arith, e3, e4, in_a)
    ]
    | inr sa ↦ elim (cases_Bool (list_any (has_tag t) a)) [
      | inl ta ↦ let e1 = rank_back a v s sa in let e2 = rank_front a v t ta in let in_a = rank_below a t ta in absurd (omega (arith, e1, e2, in_a, less))
      | inr ta ↦
          let e1 = rank_back a v s sa in let e2 = rank_back a v t ta in let e3 = rank_back a sorted s sa in let e4 = rank_back a sorted t ta in
          let lt : rank_of v s < rank_of v t = omega (arith, e1, e2, less) in
          let later = rise_back s t (later_has s sa hs) (later_has t ta ht) lt in
          omega (arith, e3, e4, later)
    ]
  ]

  -- so ranks compare the same
  compare : (s t : Tag) → Has whole s → Has whole t → nat_cmp (rank_of twice s) (rank_of twice t) ≡ nat_cmp (rank_of whole s) (rank_of whole t)
  compare s t hs ht = elim (cases_order (rank_of whole s) (rank_of whole t)) [
    | inl e ↦ let same : s ≡ t = rank_tag whole s t hs e in
        cmp_equal (rank_of twice s) (rank_of twice t) (ap (rank_of twice) same) ∙ sym (cmp_equal (rank_of whole s) (rank_of whole t) e)
    | inr o ↦ elim o [
      | inl lt ↦ cmp_less (rank_of twice s) (rank_of twice t) (agree s t hs ht lt) ∙ sym (cmp_less (rank_of whole s) (rank_of whole t) lt)
      | inr gt ↦ cmp_greater (rank_of twice s) (rank_of twice t) (agree t s ht hs gt) ∙ sym (cmp_greater (rank_of whole s) (rank_of whole t) gt)
    ]
  ]

  alike : (x y : CompletionCandidate) → Has whole x.tag → Has whole y.tag → comes_before twice x y ≡ comes_before whole x y
  alike x y hx hy = ap (λ r. is_lt (ordering_then r (option_cmp nat_cmp x.display_order y.display_order))) (compare x.tag y.tag hx hy)

  members : AllByRecursion (λ c. Has whole c.tag) twice
  members = AllByRecursion-append (λ c. Has whole c.tag) a sorted (all_have whole a (λ t h. has_front a v t h))
      (AllByRecursion-in_order (comes_before v) (λ c. Has whole c.tag) v (all_have whole v (λ t h. has_back a v t h)))

  -- two candidates that one order ranks are not tied in the other
  decided : (x y : CompletionCandidate) → Has v x.tag → Has v y.tag → comes_before v y x ≡ true → (comes_before whole y x ≡ true) ⊎ (comes_before whole x y ≡ true)
  decided x y hx hy e = elim (cases_order (rank_of whole y.tag) (rank_of whole x.tag)) [
    | inl is ↦
        let same : y.tag ≡ x.tag = rank_tag whole y.tag x.tag (has_back a v y.tag hy) is in
        inl (ap (λ r. is_lt (ordering_then r (option_cmp nat_cmp y.display_order x.display_order)))
        (cmp_equal (rank_of whole y.tag) (rank_of whole x.tag) is ∙ sym (cmp_equal (rank_of v y.tag) (rank_of v x.tag) (ap (rank_of v) same)))
        ∙ e)
    | inr o ↦ elim o [
      | inl lt ↦ inl (ap (λ r. is_lt (ordering_then r (option_cmp nat_cmp y.display_order x.display_order))) (cmp_less (rank_of whole y.tag) (rank_of whole x.tag) lt))
      | inr gt ↦ inr (ap (λ r. is_lt (ordering_then r (option_cmp nat_cmp x.display_order y.display_order))) (cmp_less (rank_of whole x.tag) (rank_of whole y.tag) gt))
    ]
  ]

  alone : (z x y : CompletionCandidate) → Has v x.tag → Has v y.tag → comes_before v y x ≡ true →
      ties (comes_before whole) z x ≡ true → ties (comes_before whole) z y ≡ true → ⊥
  alone z x y hx hy e one other = elim (decided x y hx hy e) [
    | inl t ↦ apart (comes_before whole) (below whole) z x y t one other
    | inr t ↦ apart (comes_before whole) (below whole) z y x t other one
  ]

  grouped_twice : group (a ++ group v) ≡ group (a ++ v)
  unfolding group
  grouped_twice =
      in_order-alike (λ c. Has whole c.tag) (comes_before twice) (comes_before whole) alike twice members
      ∙ sorted_after (comes_before whole) (below whole) a sorted v
      (λ z. filter-in_order (λ c. Has v c.tag) (comes_before v) (ties (comes_before whole) z) (alone z) v (all_have v v (λ t h. h)))

-- ---- visible candidates

shown_true : (cs : Candidates) → list_any is_shown cs ≡ true → shown_or_all cs ≡ filter is_shown cs
unfolding shown_or_all
shown_true cs e = rw e refl

shown_false : (cs : Candidates) → list_any is_shown cs ≡ false → shown_or_all cs ≡ cs
unfolding shown_or_all
shown_false cs e = rw e refl

kept : {X : Type 0} (p : X → Bool) (xs : List X) → AllByRecursion (λ x. p x ≡ true) xs → filter p xs ≡ xs
kept p [] h = refl
kept p (x ∷ xs) h = let e = h.0 in rw e (ap (λ s. x ∷ s) (kept p xs h.1))

dropped : {X : Type 0} (p : X → Bool) (xs : List X) → AllByRecursion (λ x. p x ≡ false) xs → filter p xs ≡ []
dropped p [] h = refl
dropped p (x ∷ xs) h = let e = h.0 in rw e (dropped p xs h.1)

-- if all candidates of a list are visible and there is one, a visible one keeps its id
first_shown : (cs : Candidates) → AreShown cs → list_any is_shown cs ≡ true → list_any is_shown (first_of_ids cs) ≡ true
first_shown [] all e = cc
first_shown (c ∷ cs) all e = or_left (is_shown c) (list_any is_shown (filter (λ d. not (share c.id d.id)) (first_of_ids cs))) all.0

any_filter : (cs : Candidates) → list_any is_shown cs ≡ true → list_any is_shown (filter is_shown cs) ≡ true
any_filter [] e = cc
any_filter (c ∷ cs) e = by (is_shown c) refl e (any_filter cs)
  where
    by : (b : Bool) → is_shown c ≡ b → (b || list_any is_shown cs) ≡ true → (list_any is_shown cs ≡ true → list_any is_shown (filter is_shown cs) ≡ true)
        → list_any is_shown (cond b (c ∷ filter is_shown cs) (filter is_shown cs)) ≡ true
    by true t e more = or_left (is_shown c) (list_any is_shown (filter is_shown cs)) t
    by false f e more = more e

-- the final list of a list with a visible candidate
pub all-shown : (P : CompletionCandidate → Type 0) (cs : Candidates) → AllByRecursion P cs → AllByRecursion P (shown_or_all cs)
all-shown P cs h = elim (cases_Bool (list_any is_shown cs)) [
  | inl t ↦ subst (AllByRecursion P) (sym (shown_true cs t)) (AllByRecursion-filter P is_shown cs h)
  | inr f ↦ subst (AllByRecursion P) (sym (shown_false cs f)) h
]

all-finish : (P : CompletionCandidate → Type 0) (cs : Candidates) → AllByRecursion P (shown_or_all cs) → AllByRecursion P (finish cs)
unfolding finish group
all-finish P cs h =
    AllByRecursion-in_order (comes_before (first_of_ids (shown_or_all cs))) P (first_of_ids (shown_or_all cs)) (all-first_of_ids P (shown_or_all cs) h)

-- if a visible candidate was gathered, no hidden one is left
pub order : (cs : Candidates) → AreGrouped (first_of_ids (shown_or_all cs)) (finish cs)
unfolding finish group
order cs =
    let left = first_of_ids (shown_or_all cs) in
    record {
      sorted = in_order-sorted (comes_before left) (below left) left;
      stable = λ c. stable-in_order (comes_before left) (below left) c left;
    }

pub visible : (cs : Candidates) → list_any is_shown cs ≡ true → AreShown (finish cs)
visible cs e = all-finish (λ c. is_shown c ≡ true) cs (subst AreShown (sym (shown_true cs e)) (passing is_shown cs))

-- a list with a visible candidate has one after `finish`
pub some_visible : (b : Candidates) → list_any is_shown b ≡ true → list_any is_shown (finish b) ≡ true
unfolding finish group
some_visible b e = any-in_order is_shown (comes_before (first_of_ids (shown_or_all b))) (first_of_ids (shown_or_all b))
    (first_shown (shown_or_all b) (subst AreShown (sym (shown_true b e)) (passing is_shown b))
    (ap (list_any is_shown) (shown_true b e) ∙ any_filter b e))

-- no two of the remaining candidates share an id
pub differ : (cs : Candidates) → Differ (finish cs)
unfolding finish group
differ cs = differ-in_order (comes_before (first_of_ids (shown_or_all cs))) (first_of_ids (shown_or_all cs)) (first_of_ids-differ (shown_or_all cs))

-- ---- the law

none_left : (a ys : Candidates) → ShareNone a ys → (p : CompletionCandidate → Bool) → ShareNone (filter p a) ys
none_left a ys h p = AllByRecursion-filter (λ c. SharesNone c ys) p a h

none_right : (a xs ys : Candidates) → ((P : CompletionCandidate → Type 0) → AllByRecursion P xs → AllByRecursion P ys) → ShareNone a xs → ShareNone a ys
none_right [] xs ys moves h = tt
none_right (c ∷ a) xs ys moves h = (moves (λ d. share c.id d.id ≡ false) h.0, none_right a xs ys moves h.1)

any_both : (a ys : Candidates) (x y : Bool) → list_any is_shown a ≡ x → list_any is_shown ys ≡ y → list_any is_shown (a ++ ys) ≡ (x || y)
any_both a ys x y e f = list_any-append is_shown a ys ∙ ap (λ p. p || list_any is_shown ys) e ∙ ap (λ q. x || q) f

module _ (a b : Candidates) (apart : ShareNone a b) where
  apart_finished : ShareNone a (finish b)
  apart_finished = none_right a b (finish b) (λ P h. all-finish P b (all-shown P b h)) apart

  stays : first_of_ids (finish b) ≡ finish b
  stays = first_of_ids-stays (finish b) (differ b)

  from : (f : Candidates) → first_of_ids (shown_or_all (a ++ finish b)) ≡ f ++ finish b → first_of_ids (shown_or_all (a ++ b)) ≡ f ++ first_of_ids (shown_or_all b) →
      finish (a ++ finish b) ≡ finish (a ++ b)
  unfolding finish
  from f twice once = ap group twice ∙ grouped_twice f (first_of_ids (shown_or_all b)) ∙ ap group (sym once)

  -- `b` has a visible candidate
  after_visible : list_any is_shown b ≡ true → finish (a ++ finish b) ≡ finish (a ++ b)
  after_visible e =
      from (first_of_ids (filter is_shown a))
      (ap first_of_ids (shown_true (a ++ finish b) (any_both a (finish b) (list_any is_shown a) true refl (some_visible b e) ∙ or-true (list_any is_shown a))
      ∙ filter-append is_shown a (finish b) ∙ ap (λ s. filter is_shown a ++ s) (kept is_shown (finish b) (visible b e)))
      ∙ first_of_ids-append (filter is_shown a) (finish b) (none_left a (finish b) apart_finished is_shown)
      ∙ ap (λ s. first_of_ids (filter is_shown a) ++ s) stays)
      (ap first_of_ids (shown_true (a ++ b) (any_both a b (list_any is_shown a) true refl e ∙ or-true (list_any is_shown a)) ∙ filter-append is_shown a b)
      ∙ first_of_ids-append (filter is_shown a) (filter is_shown b)
      (none_left a (filter is_shown b) (none_right a b (filter is_shown b) (λ P h. AllByRecursion-filter P is_shown b h) apart) is_shown)
      ∙ ap (λ s. first_of_ids (filter is_shown a) ++ first_of_ids s) (sym (shown_true b e)))

  hidden : list_any is_shown b ≡ false → AllByRecursion (λ c. is_shown c ≡ false) (finish b)
  hidden e = all-finish (λ c. is_shown c ≡ false) b (all-shown (λ c. is_shown c ≡ false) b (any_none is_shown b e))

  -- nothing is visible
  after_hidden : list_any is_shown a ≡ false → list_any is_shown b ≡ false → finish (a ++ finish b) ≡ finish (a ++ b)
  after_hidden f e =
      from (first_of_ids a)
      (ap first_of_ids (shown_false (a ++ finish b) (any_both a (finish b) false false f (none_any is_shown (finish b) (hidden e))))
      ∙ first_of_ids-append a (finish b) apart_finished ∙ ap (λ s. first_of_ids a ++ s) stays)
      (ap first_of_ids (shown_false (a ++ b) (any_both a b false false f e)) ∙ first_of_ids-append a b apart
      ∙ ap (λ s. first_of_ids a ++ first_of_ids s) (sym (shown_false b e)))

  -- only `a` has visible candidates
  front_visible : list_any is_shown a ≡ true → list_any is_shown b ≡ false → finish (a ++ finish b) ≡ finish (a ++ b)
  unfolding finish
  front_visible t e =
      ap (λ s. group (first_of_ids s))
      (shown_true (a ++ finish b) (any_both a (finish b) true false t (none_any is_shown (finish b) (hidden e)))
      ∙ filter-append is_shown a (finish b) ∙ ap (λ s. filter is_shown a ++ s) (dropped is_shown (finish b) (hidden e) ∙ sym (dropped is_shown b (any_none is_shown b e)))
      ∙ sym (filter-append is_shown a b) ∙ sym (shown_true (a ++ b) (any_both a b true false t e)))

  -- the law: if the two lists share no id, it makes no difference to finish the second one first
  pub finish_after : finish (a ++ finish b) ≡ finish (a ++ b)
  finish_after = elim (cases_Bool (list_any is_shown b)) [
    | inl e ↦ after_visible e
    | inr e ↦ elim (cases_Bool (list_any is_shown a)) [
      | inl t ↦ front_visible t e
      | inr f ↦ after_hidden f e
    ]
  ]
