-- The ranks of tags in joined lists, and in a sorted list.
use Rattle.std.proofs.Common.{◌≡◌, ◌<◌, ◌≤◌, ◌+◌, ℕ, suc, List, [], ◌∷◌, ◌++◌, length, true, false, Option, Some, None, refl, inl, inr, ap, ◌∙◌, sym, arith, zero-add}
use Rattle.std.specs.List.{list_any}
use Rattle.std.specs.Option.{option_eq, option_cmp}
use Rattle.std.specs.Str.{bytes_eq}
use Rattle.std.specs.declared.cmp.Ordering.{Ordering}
use Rattle.std.specs.declared.cmp.Ordering.TheVariants.{Less, Equal, Greater}
use Rattle.std.specs.Ordering.{is_lt, is_eq, nat_cmp, ordering_then}
use Rattle.std.specs.Cmp.{IsStrictWeakOrder, on_total, then_total, nat_cmp_total, nat_cmp_is}
use Rattle.std.specs.Cmp.Lexicographic.{texts_ties, same_text, nat_list_cmp_total, options_total}
use Rattle.std.proofs.lemmas.Cmp.{ranked, tied_itself}
use Rattle.std.proofs.lemmas.Bool.{cases_Bool}
use Rattle.std.proofs.lemmas.List.Sorted.{ranks_by}
use Rattle.cc_candidates.specs.declared.candidate.CompletionCandidate.{CompletionCandidate}
use Rattle.cc_engine.specs.Finished.{has_tag, rank_of, comes_before}
use Rattle.cc_base.proofs.Sorted.{NoneBelow, Up}

abbrev pub Tag : Type 0
Tag = Option (List ℕ)

pub same_tags : (a b : Tag) → option_eq bytes_eq a b ≡ true → a ≡ b
same_tags None None e = refl
same_tags None (Some y) e = cc
same_tags (Some x) None e = cc
same_tags (Some x) (Some y) e = ap Some (same_text x y (sym e))

pub tag_itself : (tag : Tag) → option_eq bytes_eq tag tag ≡ true
tag_itself None = refl
tag_itself (Some t) = texts_ties t t ∙ ap is_eq (tied_itself nat_list_cmp_total t)

-- some candidate has the tag
abbrev pub Has : List CompletionCandidate → Tag → Type 0
Has v tag = list_any (has_tag tag) v ≡ true

pub rank_front : (xs ys : List CompletionCandidate) (tag : Tag) → Has xs tag → rank_of (xs ++ ys) tag ≡ rank_of xs tag
rank_front [] ys tag h = cc
rank_front (x ∷ xs) ys tag h = elim (cases_Bool (has_tag tag x)) [
  | inl t ↦ rw t refl
  | inr f ↦ rw f (ap suc (rank_front xs ys tag (rw f at h)))
]

pub rank_back : (xs ys : List CompletionCandidate) (tag : Tag) → list_any (has_tag tag) xs ≡ false → rank_of (xs ++ ys) tag ≡ length xs + rank_of ys tag
rank_back [] ys tag h = sym (zero-add (rank_of ys tag))
rank_back (x ∷ xs) ys tag h = elim (cases_Bool (has_tag tag x)) [
  | inl t ↦ let no : true ≡ false = rw t at h in cc
  | inr f ↦ rw f (let rest : rank_of (xs ++ ys) tag ≡ length xs + rank_of ys tag = rank_back xs ys tag (rw f at h) in omega (arith, rest))
]

pub rank_below : (xs : List CompletionCandidate) (tag : Tag) → Has xs tag → rank_of xs tag < length xs
rank_below [] tag h = cc
rank_below (x ∷ xs) tag h = elim (cases_Bool (has_tag tag x)) [
  | inl t ↦ rw t (omega arith)
  | inr f ↦ rw f (let rest : rank_of xs tag < length xs = rank_below xs tag (rw f at h) in omega (arith, rest))
]

-- equal ranks mean equal tags
pub rank_tag : (xs : List CompletionCandidate) (s t : Tag) → Has xs s → rank_of xs s ≡ rank_of xs t → s ≡ t
rank_tag [] s t h e = cc
rank_tag (x ∷ xs) s t h e = elim (cases_Bool (has_tag s x)) [
  | inl a ↦ elim (cases_Bool (has_tag t x)) [
    | inl b ↦ sym (same_tags x.tag s a) ∙ same_tags x.tag t b
    | inr b ↦ let no : 0 ≡ suc (rank_of xs t) = rw (a, b) at e in absurd (omega (arith, no))
  ]
  | inr a ↦ elim (cases_Bool (has_tag t x)) [
    | inl b ↦ let no : suc (rank_of xs s) ≡ 0 = rw (a, b) at e in absurd (omega (arith, no))
    | inr b ↦ let is : suc (rank_of xs s) ≡ suc (rank_of xs t) = rw (a, b) at e in rank_tag xs s t (rw a at h) (omega (arith, is))
  ]
]

-- a candidate that no other must precede has a rank that is not greater
le_of : (v : List CompletionCandidate) (x y : CompletionCandidate) → comes_before v y x ≡ false → rank_of v x.tag ≤ rank_of v y.tag
le_of v x y e = by (nat_cmp (rank_of v y.tag) (rank_of v x.tag)) refl
  where
    by : (r : Ordering) → r ≡ nat_cmp (rank_of v y.tag) (rank_of v x.tag) → rank_of v x.tag ≤ rank_of v y.tag
    by Less h =
        let no : is_lt (ordering_then Less (option_cmp nat_cmp y.display_order x.display_order)) ≡ false =
        ap (λ r. is_lt (ordering_then r (option_cmp nat_cmp y.display_order x.display_order))) h ∙ e in
        cc
    by Equal h = let is = ranked (rank_of v y.tag) (rank_of v x.tag) Equal h in omega (arith, is)
    by Greater h = let is = ranked (rank_of v y.tag) (rank_of v x.tag) Greater h in omega (arith, is)

not_before : (v : List CompletionCandidate) (x : CompletionCandidate) (xs : List CompletionCandidate) (tag : Tag) →
    NoneBelow (comes_before v) x xs → Has xs tag → rank_of v x.tag ≤ rank_of v tag
not_before v x [] tag all h = cc
not_before v x (y ∷ ys) tag all h = elim (cases_Bool (has_tag tag y)) [
  | inl t ↦ ap_le (same_tags y.tag tag t) (le_of v x y all.0)
  | inr f ↦ not_before v x ys tag all.1 (rw f at h)
]
  where
    ap_le : {s : Tag} → s ≡ tag → rank_of v x.tag ≤ rank_of v s → rank_of v x.tag ≤ rank_of v tag
    ap_le is le = rw is at le

-- first ranks in a sorted list are ordered as in the list itself
pub ranks_rise : (v r : List CompletionCandidate) (s t : Tag) → Up (comes_before v) r → Has r s → Has r t →
    rank_of r s < rank_of r t → rank_of v s ≤ rank_of v t
ranks_rise v [] s t up hs ht below = cc
ranks_rise v (x ∷ xs) s t up hs ht below = elim (cases_Bool (has_tag s x)) [
  | inl a ↦ elim (cases_Bool (has_tag t x)) [
    | inl b ↦ let no : 0 < 0 = rw (a, b) at below in absurd (omega (arith, no))
    | inr b ↦ ap_le (same_tags x.tag s a) (not_before v x xs t up.0 (rw b at ht))
  ]
  | inr a ↦ elim (cases_Bool (has_tag t x)) [
    | inl b ↦ let no : suc (rank_of xs s) < 0 = rw (a, b) at below in absurd (omega (arith, no))
    | inr b ↦ let is : suc (rank_of xs s) < suc (rank_of xs t) = rw (a, b) at below in
        ranks_rise v xs s t up.1 (rw a at hs) (rw b at ht) (omega (arith, is))
  ]
]
  where
    ap_le : {q : Tag} → q ≡ s → rank_of v q ≤ rank_of v t → rank_of v s ≤ rank_of v t
    ap_le is le = rw is at le

-- the order of a list's candidates is a strict weak order
pub below : (v : List CompletionCandidate) → IsStrictWeakOrder (comes_before v)
below v = ranks_by (then_total (on_total (λ (c : CompletionCandidate). rank_of v c.tag) nat_cmp_total)
    (on_total (λ (c : CompletionCandidate). c.display_order) (options_total nat_cmp_total))) (λ c. c)

pub cmp_less : (x y : ℕ) → x < y → nat_cmp x y ≡ Less
cmp_less x y h = sym (nat_cmp_is x y Less h)

pub cmp_equal : (x y : ℕ) → x ≡ y → nat_cmp x y ≡ Equal
cmp_equal x y h = sym (nat_cmp_is x y Equal h)

pub cmp_greater : (x y : ℕ) → y < x → nat_cmp x y ≡ Greater
cmp_greater x y h = sym (nat_cmp_is x y Greater h)
