-- A stable sort returns the list in order. A list in order has the elements of the list.
use Rattle.std.proofs.Common.{◌≡◌, ℕ, zero, suc, ◌+◌, ◌<◌, ◌≤◌, Bool, true, false, cond, not, List, [], ◌∷◌, map, length, get_or, filter, inl, inr, refl, sym, ap, ◌∙◌, arith}
use Rattle.std.specs.Cmp.{IsStrictWeakOrder}
use Rattle.std.specs.List.{AllByRecursion}
use Rattle.std.specs.List.Sorted.{IsSortedBy, IsStableBy, ties}
use Rattle.std.proofs.lemmas.Bool.{cases_Bool, and_parts, not-true}
use Rattle.std.proofs.lemmas.List.Sorted.{sorted_far}
use Rattle.cc_base.specs.Sorting.{insert, in_order}
use Rattle.cc_base.proofs.Members.{IsIn, AllByRecursion-IsIn, AllByRecursion-from_IsIn}

module _ {X : Type 0} (lt : X → X → Bool) where
  -- no element is below x
  abbrev pub NoneBelow : X → List X → Type 0
  NoneBelow x [] = Unit {0}
  NoneBelow x (y ∷ ys) = (lt y x ≡ false) × NoneBelow x ys

  -- no element is below one before it
  abbrev pub Up : List X → Type 0
  Up [] = Unit {0}
  Up (x ∷ xs) = NoneBelow x xs × Up xs

module _ {X : Type 0} (lt : X → X → Bool) (o : IsStrictWeakOrder lt) where
  none_below : (x : X) (xs : List X) → ((k : ℕ) → k < length xs → lt (get_or xs k x) x ≡ false) →
      NoneBelow lt x xs
  none_below x [] h = tt
  none_below x (y ∷ ys) h = (h 0 (omega arith), none_below x ys (λ k p. h (suc k) (omega arith)))

  up_from : (xs : List X) → ((i j : ℕ) (d : X) → i ≤ j → j < length xs →
      lt (get_or xs j d) (get_or xs i d) ≡ false) → Up lt xs
  up_from [] h = tt
  up_from (x ∷ xs) h = (
    none_below x xs (λ k p. h 0 (suc k) x (omega arith) (omega arith)),
    up_from xs (λ i j d p q. h (suc i) (suc j) d (omega arith) (omega arith)),
  )

  none_below-trans : (x y : X) (ys : List X) → lt y x ≡ false → NoneBelow lt y ys → NoneBelow lt x ys
  none_below-trans x y [] e h = tt
  none_below-trans x y (z ∷ ys) e h = (o.chain z y x h.0 e, none_below-trans x y ys e h.1)

  none_below-insert : (z x : X) (ys : List X) → lt x z ≡ false → NoneBelow lt z ys →
      NoneBelow lt z (insert lt x ys)
  unfolding insert
  none_below-insert z x [] e h = (e, tt)
  none_below-insert z x (y ∷ ys) e h = elim (cases_Bool (lt y x)) [
    | inl t ↦ rw t (h.0, none_below-insert z x ys e h.1)
    | inr f ↦ rw f (e, h)
  ]

  up-insert : (x : X) (ys : List X) → Up lt ys → Up lt (insert lt x ys)
  unfolding insert
  up-insert x [] h = (tt, tt)
  up-insert x (y ∷ ys) h = elim (cases_Bool (lt y x)) [
    | inl t ↦ rw t (none_below-insert y x ys (o.one_way y x t) h.0, up-insert x ys h.1)
    | inr f ↦ rw f ((f, none_below-trans x y ys f h.0), h)
  ]

  pub up-in_order : (xs : List X) → Up lt (in_order lt xs)
  unfolding in_order
  up-in_order [] = tt
  up-in_order (x ∷ xs) = up-insert x (in_order lt xs) (up-in_order xs)

  -- if one of two elements is below the other, they do not both tie with `z`
  pub apart : (z x y : X) → lt y x ≡ true → ties lt z x ≡ true → ties lt z y ≡ true → ⊥
  apart z x y below one other =
      let a = and_parts (not (lt z x)) (not (lt x z)) one in
      let b = and_parts (not (lt z y)) (not (lt y z)) other in
      let no : lt y x ≡ false = o.chain y z x (not-true (lt y z) b.1) (not-true (lt z x) a.0) in
      cc

  stable-insert : (z x : X) (ys : List X) →
      filter (ties lt z) (insert lt x ys) ≡ filter (ties lt z) (x ∷ ys)
  unfolding insert
  stable-insert z x [] = refl
  stable-insert z x (y ∷ ys) = elim (cases_Bool (lt y x)) [
    | inl t ↦ rw t (ap (λ rest. cond (ties lt z y) (y ∷ rest) rest) (stable-insert z x ys)
        ∙ order (ties lt z x) (ties lt z y) refl refl t)
    | inr f ↦ rw f
  ]
    where
      order : (a b : Bool) → ties lt z x ≡ a → ties lt z y ≡ b → lt y x ≡ true
          → cond b (y ∷ cond a (x ∷ filter (ties lt z) ys) (filter (ties lt z) ys))
          (cond a (x ∷ filter (ties lt z) ys) (filter (ties lt z) ys))
          ≡ cond a (x ∷ cond b (y ∷ filter (ties lt z) ys) (filter (ties lt z) ys))
          (cond b (y ∷ filter (ties lt z) ys) (filter (ties lt z) ys))
      order true true e f t = absurd (apart z x y t e f)
      order true false e f t = refl
      order false true e f t = refl
      order false false e f t = refl

  pub stable-in_order : (z : X) (xs : List X) →
      filter (ties lt z) (in_order lt xs) ≡ filter (ties lt z) xs
  unfolding in_order
  stable-in_order z [] = refl
  stable-in_order z (x ∷ xs) =
      stable-insert z x (in_order lt xs)
      ∙ ap (λ rest. cond (ties lt z x) (x ∷ rest) rest) (stable-in_order z xs)

  not_below_itself : (x : X) → lt x x ≡ false
  not_below_itself x = elim (cases_Bool (lt x x)) [ inl t ↦ o.one_way x x t | inr f ↦ f ]

  tie_itself : (x : X) → ties lt x x ≡ true
  tie_itself x = let e = not_below_itself x in rw e

  below_all : (y z w : X) → lt y z ≡ true → lt w z ≡ false → lt y w ≡ true
  below_all y z w below e = elim (cases_Bool (lt y w))
      [ inl t ↦ t | inr f ↦ let no : lt y z ≡ false = o.chain y w z f e in cc ]

  -- no element above `y` ties with it
  none_tied : (y z : X) (zs : List X) → lt y z ≡ true → NoneBelow lt z zs → filter (ties lt y) zs ≡ []
  none_tied y z [] below h = refl
  none_tied y z (w ∷ zs) below h =
      let e = below_all y z w below h.0 in
      rw e (none_tied y z zs below h.1)

  first_tied : (y z : X) (zs : List X) → lt y z ≡ true → NoneBelow lt z zs →
      filter (ties lt y) (z ∷ zs) ≡ []
  first_tied y z zs below h = none_tied y z (z ∷ zs) below (not_below_itself z, h)

  kept : (y : X) (ys : List X) → filter (ties lt y) (y ∷ ys) ≡ y ∷ filter (ties lt y) ys
  kept y ys = let e = tie_itself y in rw e

  tails : (x y z : X) (ys zs : List X) → y ≡ z →
      filter (ties lt x) (y ∷ ys) ≡ filter (ties lt x) (z ∷ zs) →
      filter (ties lt x) ys ≡ filter (ties lt x) zs
  tails x y z ys zs is e = by (ties lt x y) (e ∙ ap (λ w. filter (ties lt x) (w ∷ zs)) (sym is))
    where
      by : (b : Bool) → cond b (y ∷ filter (ties lt x) ys) (filter (ties lt x) ys)
          ≡ cond b (y ∷ filter (ties lt x) zs) (filter (ties lt x) zs) →
          filter (ties lt x) ys ≡ filter (ties lt x) zs
      by true e = cc
      by false e = e

  -- two ordered lists with the same ties are equal
  pub one_order : (ys zs : List X) → Up lt ys → Up lt zs →
      ((x : X) → filter (ties lt x) ys ≡ filter (ties lt x) zs) → ys ≡ zs
  one_order [] [] up down h = refl
  one_order [] (z ∷ zs) up down h = let e = h z ∙ kept z zs in cc
  one_order (y ∷ ys) [] up down h = let e = sym (kept y ys) ∙ h y in cc
  one_order (y ∷ ys) (z ∷ zs) up down h = elim (cases_Bool (lt y z)) [
    | inl t ↦ let e = sym (kept y ys) ∙ h y ∙ first_tied y z zs t down.0 in cc
    | inr f ↦ elim (cases_Bool (lt z y)) [
      | inl t ↦ let e = sym (kept z zs) ∙ sym (h z) ∙ first_tied z y ys t up.0 in cc
      | inr g ↦
          let tied : ties lt y z ≡ true = rw (f, g) in
          let e : y ∷ filter (ties lt y) ys ≡ z ∷ filter (ties lt y) zs = sym (kept y ys) ∙ h y
          ∙ rw tied in
          let is : y ≡ z = cc in
          ap (λ x. x ∷ ys) is ∙ ap (λ xs. z ∷ xs)
          (one_order ys zs up.1 down.1 (λ x. tails x y z ys zs is (h x)))
    ]
  ]

  up_sorted : (xs : List X) → Up lt xs → IsSortedBy lt xs
  up_sorted (x ∷ y ∷ xs) h zero d from below = h.0.0
  up_sorted (x ∷ y ∷ xs) h (suc k) d from below =
      let next : suc k + 1 ≡ suc (k + 1) = omega arith in
      rw next (up_sorted (y ∷ xs) h.1 k d (omega arith) (omega arith))
  up_sorted xs h k d from below = absurd (omega arith)

  -- a list in order is sorted
  pub in_order-sorted : (xs : List X) → IsSortedBy lt (in_order lt xs)
  in_order-sorted xs = up_sorted (in_order lt xs) (up-in_order xs)

  -- a sorted and stable list is the other list in order
  pub sorted_is : (xs ys : List X) → IsSortedBy lt ys → IsStableBy lt xs ys → ys ≡ in_order lt xs
  sorted_is xs ys sorted stable =
      one_order ys (in_order lt xs) (up_from ys (sorted_far lt o ys sorted)) (up-in_order xs)
      (λ x. stable x ∙ sym (stable-in_order x xs))

-- elements ordered by the value of a function
module _ {X Y : Type 0} (f : X → Y) (lt : Y → Y → Bool) where
  map-insert : (x : X) (ys : List X) →
      map f (insert (λ a b. lt (f a) (f b)) x ys) ≡ insert lt (f x) (map f ys)
  unfolding insert
  map-insert x [] = refl
  map-insert x (y ∷ ys) = elim (cases_Bool (lt (f y) (f x))) [
    | inl t ↦ rw t (ap (λ rest. f y ∷ rest) (map-insert x ys))
    | inr n ↦ rw n
  ]

  pub map-in_order : (xs : List X) → map f (in_order (λ a b. lt (f a) (f b)) xs)
      ≡ in_order lt (map f xs)
  unfolding in_order
  map-in_order [] = refl
  map-in_order (x ∷ xs) = map-insert x (in_order (λ a b. lt (f a) (f b)) xs)
      ∙ ap (insert lt (f x)) (map-in_order xs)

-- the same elements, in order
module _ {X : Type 0} (below : X → X → Bool) where
  IsIn-insert : (x y : X) (ys : List X) → IsIn (insert below x ys) y → IsIn (x ∷ ys) y
  unfolding insert
  IsIn-insert x y [] h = h
  IsIn-insert x y (z ∷ ys) h = elim (cases_Bool (below z x)) [
    | inl t ↦ swapped (IsIn-insert x y ys) (let k : IsIn (z ∷ insert below x ys) y = rw t at h in k)
    | inr f ↦ rw f at h
  ]
    where
      swapped : (IsIn (insert below x ys) y → IsIn (x ∷ ys) y) → IsIn (z ∷ insert below x ys) y →
          IsIn (x ∷ z ∷ ys) y
      swapped again (inl e) = inr (inl e)
      swapped again (inr k) = elim (again k) [ inl e ↦ inl e | inr l ↦ inr (inr l) ]

  insert-IsIn : (x y : X) (ys : List X) → IsIn (x ∷ ys) y → IsIn (insert below x ys) y
  unfolding insert
  insert-IsIn x y [] h = h
  insert-IsIn x y (z ∷ ys) h = elim (cases_Bool (below z x)) [
    | inl t ↦ rw t (swapped (insert-IsIn x y ys) h)
    | inr f ↦ rw f h
  ]
    where
      swapped : (IsIn (x ∷ ys) y → IsIn (insert below x ys) y) → IsIn (x ∷ z ∷ ys) y →
          IsIn (z ∷ insert below x ys) y
      swapped again (inl e) = inr (again (inl e))
      swapped again (inr (inl e)) = inl e
      swapped again (inr (inr k)) = inr (again (inr k))

  pub IsIn-in_order : (xs : List X) (y : X) → IsIn (in_order below xs) y → IsIn xs y
  unfolding in_order
  IsIn-in_order [] y h = h
  IsIn-in_order (x ∷ xs) y h = elim (IsIn-insert x y (in_order below xs) h)
      [ inl e ↦ inl e | inr k ↦ inr (IsIn-in_order xs y k) ]

  pub in_order-IsIn : (xs : List X) (y : X) → IsIn xs y → IsIn (in_order below xs) y
  unfolding in_order
  in_order-IsIn [] y h = h
  in_order-IsIn (x ∷ xs) y (inl e) = insert-IsIn x y (in_order below xs) (inl e)
  in_order-IsIn (x ∷ xs) y (inr k) = insert-IsIn x y (in_order below xs)
      (inr (in_order-IsIn xs y k))

  -- what holds for each element also holds for each once they are in order
  pub AllByRecursion-in_order : (P : X → Type 0) (xs : List X) → AllByRecursion P xs →
      AllByRecursion P (in_order below xs)
  AllByRecursion-in_order P xs h =
      AllByRecursion-from_IsIn P (in_order below xs)
      (λ x at. AllByRecursion-IsIn P xs x h (IsIn-in_order xs x at))
