-- Labels that occur twice.
use Rattle.std.proofs.Common.{◌≡◌, ◌≢◌, ℕ, IsTrue, List, [], ◌∷◌, ◌++◌, false, map, Some, None, inl, inr, sym, ap, ◌∙◌, subst}
use Rattle.std.proofs.lemmas.Bool.{cases_Bool}
use Rattle.cc_base.specs.Differ.{AllDifferBy}
use Rattle.cc_base.proofs.Members.{IsIn, IsIn-append_left, IsIn-append_right, map-IsIn, AllByRecursion-IsIn, AllByRecursion-from_IsIn}
use Rattle.cc_command.specs.Names.{contains_name}
use Rattle.cc_command.proofs.SiblingNames.{contains_name-IsIn}
use Rattle.cc_bash.specs.Labels.{first_again}

-- if no text occurs again, the first text is new
first_is_new : (before texts : List (List ℕ)) (text : List ℕ) →
    first_again before (text ∷ texts) ≡ None →
    (contains_name before text ≡ false) × (first_again (before ++ text ∷ []) texts ≡ None)
first_is_new before texts text h = elim (cases_Bool (contains_name before text)) [
  | inl t ↦ let e : Some text ≡ None = rw t at h in cc
  | inr f ↦ (f, rw f at h)
]

-- a text of the list does not come before it
none_before : (before texts : List (List ℕ)) (text : List ℕ) → first_again before texts ≡ None →
    IsIn texts text → IsIn before text → ⊥
none_before before [] text h at earlier = absurd at
none_before before (t ∷ texts) text h (inl e) earlier =
    let new = (first_is_new before texts t h).0 in
    let found : IsTrue (contains_name before t) =
    contains_name-IsIn before t (subst (IsIn before) (sym e) earlier) in
    cc
none_before before (t ∷ texts) text h (inr at) earlier =
    none_before (before ++ t ∷ []) texts text (first_is_new before texts t h).1 at
    (IsIn-append_left before (t ∷ []) text earlier)

-- if no text occurs again, all differ
pub texts_differ : (before texts : List (List ℕ)) → first_again before texts ≡ None →
    AllDifferBy (λ text. text) texts
texts_differ before [] h = tt
texts_differ before (text ∷ texts) h =
    let rest = (first_is_new before texts text h).1 in (
      AllByRecursion-from_IsIn (λ other. text ≢ other) texts (λ other at e.
          none_before (before ++ text ∷ []) texts other rest at
          (IsIn-append_right before (text ∷ []) other (inl e))),
      texts_differ (before ++ text ∷ []) texts rest,
    )

module _ {A B : Type 0} (value : A → B) where
  -- elements with different values differ
  pub AllDifferBy-map : (xs : List A) → AllDifferBy (λ y. y) (map value xs) → AllDifferBy value xs
  AllDifferBy-map [] h = tt
  AllDifferBy-map (x ∷ xs) h = (
    AllByRecursion-from_IsIn (λ other. value x ≢ value other) xs (λ other at.
        AllByRecursion-IsIn (λ y. value x ≢ y) (map value xs) (value other) h.0
        (map-IsIn value xs other at)),
    AllDifferBy-map xs h.1,
  )

  -- two elements with the same value are equal, if values differ
  pub same_element : (xs : List A) (x y : A) → AllDifferBy value xs → IsIn xs x → IsIn xs y →
      value x ≡ value y → x ≡ y
  same_element [] x y h a b e = absurd a
  same_element (z ∷ zs) x y h (inl a) (inl b) e = sym a ∙ b
  same_element (z ∷ zs) x y h (inl a) (inr b) e =
      absurd (AllByRecursion-IsIn (λ other. value z ≢ value other) zs y h.0 b (ap value a ∙ e))
  same_element (z ∷ zs) x y h (inr a) (inl b) e =
      absurd (AllByRecursion-IsIn (λ other. value z ≢ value other) zs x h.0 a (ap value b ∙ sym e))
  same_element (z ∷ zs) x y h (inr a) (inr b) e = same_element zs x y h.1 a b e
