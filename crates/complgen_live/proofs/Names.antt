-- Names of tree files: sorted and without duplicates, and from several directories.
use Rattle.std.proofs.Common.{◌≡◌, ◌∙◌, ap, refl, sym, subst, ℕ, ◌+◌, ◌<◌, Bool, inl, inr, List, [], ◌∷◌, ◌++◌, append_assoc, drop, filter, get_or, length, map, Option}
use Rattle.std.specs.List.{dedup}
use Rattle.std.proofs.lemmas.Bool.{cases_Bool}
use Rattle.std.proofs.lemmas.List.{drop_more, length-map, map-append}
use Rattle.std.proofs.lemmas.List.Filters.{length-filter_both}
use Rattle.cc_candidates.specs.PathCandidates.{MayList}
use Rattle.cc_base.specs.PlainName.{is_plain_name}
use Rattle.complgen_live.specs.KnownNames.{AreListed, is_odd_name}

-- ---- without duplicates

module _ {X Y : Type 0} (f : X → Y) (same : Y → Y → Bool) where
  map-dedup_more : (kept : X) (xs : List X)
      → map f (dedup (λ a b. same (f a) (f b)) (kept ∷ xs)) ≡ dedup same (f kept ∷ map f xs)
  map-dedup_more kept [] = refl
  map-dedup_more kept (x ∷ xs) = elim (cases_Bool (same (f x) (f kept))) [
    | inl t ↦ rw t (map-dedup_more kept xs)
    | inr n ↦ rw n (ap (λ rest. f kept ∷ rest) (map-dedup_more x xs))
  ]

  pub map-dedup : (xs : List X)
      → map f (dedup (λ a b. same (f a) (f b)) xs) ≡ dedup same (map f xs)
  map-dedup [] = refl
  map-dedup (x ∷ xs) = map-dedup_more x xs

-- ---- the number of names that are skipped

pub counted : {X Y : Type 0} (f : X → List ℕ) (g : Y → List ℕ) (all : List X) (plain : List Y)
    → map g plain ≡ filter is_plain_name (map f all)
    → length plain + length (filter is_odd_name (map f all)) ≡ length all
counted f g all plain are =
    ap (λ n. n + length (filter is_odd_name (map f all))) (sym (length-map plain g) ∙ ap length are)
    ∙ length-filter_both is_plain_name is_odd_name (λ name. refl) (map f all)
    ∙ length-map all f

-- ---- names from several directories

-- the names in one more directory, and then those in the others
pub one_more_folder : {X Y : Type 0} (text : X → List ℕ) (f : Y → List ℕ)
    (lists : List ℕ → Option (List (List ℕ)) → Type 0)
    (folders : List X) (folder : X) (path : List ℕ) (i : ℕ) (found here all : List Y)
    → i < length folders → folder ≡ get_or folders i folder → path ≡ text folder
    → MayList (lists path) (map f here) → all ≡ found ++ here
    → ((others : List (List ℕ)) → AreListed lists (map text (drop i folders)) others
    → AreListed lists (map text folders) (map f found ++ others))
    → (others : List (List ℕ)) → AreListed lists (map text (drop (i + 1) folders)) others
    → AreListed lists (map text folders) (map f all ++ others)
one_more_folder text f lists folders folder path i found here all within is named listed joined so_far
    others are =
    let left : drop i folders ≡ folder ∷ drop (i + 1) folders =
    drop_more folders i folder within ∙ ap (λ x. x ∷ drop (i + 1) folders) (sym is) in
    let with_here : AreListed lists (map text (drop i folders)) (map f here ++ others) =
    subst (λ fs. AreListed lists (map text fs) (map f here ++ others)) (sym left)
    (map f here, others, subst (λ p. MayList (lists p) (map f here)) named listed, are, refl) in
    subst (AreListed lists (map text folders))
    (append_assoc' ∙ ap (λ names. names ++ others) (sym (ap (map f) joined ∙ map-append f found here)))
    (so_far (map f here ++ others) with_here)
  where
    append_assoc' : map f found ++ (map f here ++ others) ≡ (map f found ++ map f here) ++ others
    append_assoc' = sym (append_assoc (map f found) (map f here) others)
