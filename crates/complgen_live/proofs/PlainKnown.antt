-- The names that are registered are plain.
use Rattle.std.proofs.Common.{ℕ, Bool, IsTrue, inl, inr, refl, List, [], ◌∷◌, ◌++◌, filter}
use Rattle.std.specs.List.{AllByRecursion, dedup}
use Rattle.std.specs.Str.{bytes_eq}
use Rattle.std.proofs.lemmas.Bool.{cases_Bool}
use Rattle.cc_base.proofs.Members.{AllByRecursion-append}
use Rattle.cc_base.specs.PlainName.{is_joined, is_plain_name, name_byte}
use Rattle.cc_base.specs.Sorting.{in_order, insert}
use Rattle.complgen_live.specs.KnownNames.{comes_before, each_once, is_other_name, own_name}
use Rattle.complgen_live.specs.Registrations.{ArePlain}

-- ---- what holds for each element of a list holds for a part of it, in any order

module _ {X : Type 0} where
  filter_passes : (test : X → Bool) (xs : List X)
      → AllByRecursion (λ x. IsTrue (test x)) (filter test xs)
  filter_passes test [] = tt
  filter_passes test (x ∷ xs) = elim (cases_Bool (test x)) [
    | inl t ↦ rw t (t, filter_passes test xs)
    | inr n ↦ rw n (filter_passes test xs)
  ]

  module _ (P : X → Type 0) where
    filter_keeps : (test : X → Bool) (xs : List X) → AllByRecursion P xs
        → AllByRecursion P (filter test xs)
    filter_keeps test [] h = tt
    filter_keeps test (x ∷ xs) h = elim (cases_Bool (test x)) [
      | inl t ↦ rw t (h.0, filter_keeps test xs h.1)
      | inr n ↦ rw n (filter_keeps test xs h.1)
    ]

    insert_keeps : (below : X → X → Bool) (x : X) (xs : List X) → P x → AllByRecursion P xs
        → AllByRecursion P (insert below x xs)
    unfolding insert
    insert_keeps below x [] p h = (p, tt)
    insert_keeps below x (y ∷ ys) p h = elim (cases_Bool (below y x)) [
      | inl t ↦ rw t (h.0, insert_keeps below x ys p h.1)
      | inr n ↦ rw n (p, h)
    ]

    in_order_keeps : (below : X → X → Bool) (xs : List X) → AllByRecursion P xs
        → AllByRecursion P (in_order below xs)
    unfolding in_order
    in_order_keeps below [] h = tt
    in_order_keeps below (x ∷ xs) h =
        insert_keeps below x (in_order below xs) h.0 (in_order_keeps below xs h.1)

    dedup_keeps_more : (same : X → X → Bool) (kept : X) (xs : List X) → P kept
        → AllByRecursion P xs → AllByRecursion P (dedup same (kept ∷ xs))
    dedup_keeps_more same kept [] p h = (p, tt)
    dedup_keeps_more same kept (x ∷ xs) p h = elim (cases_Bool (same x kept)) [
      | inl t ↦ rw t (dedup_keeps_more same kept xs p h.1)
      | inr n ↦ rw n (p, dedup_keeps_more same x xs h.0 h.1)
    ]

    dedup_keeps : (same : X → X → Bool) (xs : List X) → AllByRecursion P xs
        → AllByRecursion P (dedup same xs)
    dedup_keeps same [] h = tt
    dedup_keeps same (x ∷ xs) h = dedup_keeps_more same x xs h.0 h.1

-- ---- the names

-- the known names from these names of tree files are plain
pub known_plain : (stems : List (List ℕ))
    → ArePlain (each_once (filter is_other_name (filter is_plain_name stems)))
known_plain stems =
    let P : List ℕ → Type 0 = λ name. IsTrue (is_plain_name name) in
    dedup_keeps P bytes_eq _ (in_order_keeps P comes_before _
    (filter_keeps P is_other_name (filter is_plain_name stems)
    (filter_passes is_plain_name stems)))

-- these names and the name of this program are plain
pub with_own : (names : List (List ℕ)) → ArePlain names → ArePlain (names ++ own_name ∷ [])
unfolding is_plain_name is_joined name_byte
with_own names plain =
    AllByRecursion-append (λ name. IsTrue (is_plain_name name)) names (own_name ∷ []) plain
    (refl, tt)
