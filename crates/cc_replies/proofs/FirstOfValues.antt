-- The first entry of each value, while entries are read one after another.
use Rattle.std.specs.Prelude.{filter}
use Rattle.std.specs.BTreeSet.{BTreeSet, contains}
use Rattle.std.specs.Cmp.Lexicographic.{slice_cmp, texts_ties}
use Rattle.std.specs.Ordering.{is_eq, nat_cmp}
use Rattle.std.specs.Str.{bytes_eq}
use Rattle.std.proofs.Common.{◌≡◌, ◌&&◌, ◌||◌, ℕ, Bool, true, false, cond, not, List, [], ◌∷◌, ◌++◌, inl, inr, refl, ap, sym, subst, ◌∙◌, append_assoc}
use Rattle.std.proofs.Math.Bool.{or-false, or-true}
use Rattle.std.proofs.lemmas.Bool.{cases_Bool}
use Rattle.std.proofs.lemmas.List.Elements.{filter_agree}
use Rattle.cc_replies.specs.GivenLines.{Entry, first_of_values}

abbrev has_value : BTreeSet (List ℕ) → Entry → Bool
has_value seen entry = contains (slice_cmp nat_cmp) seen entry.value

-- the entries whose values are not seen
abbrev pub unseen : BTreeSet (List ℕ) → List Entry → List Entry
unseen seen entries = filter (λ entry. not (contains (slice_cmp nat_cmp) seen entry.value)) entries

-- a value that was added to a set
abbrev pub IsAdded : BTreeSet (List ℕ) → BTreeSet (List ℕ) → List ℕ → Type 0
IsAdded before after value =
    (q : List ℕ) → contains (slice_cmp nat_cmp) after q ≡ cond (is_eq (slice_cmp nat_cmp value q)) true (contains (slice_cmp nat_cmp) before q)

by_test : (b x : Bool) → cond b true x ≡ (x || b)
by_test true x = sym (or-true x)
by_test false x = sym (or-false x)

seen_more : (before after : BTreeSet (List ℕ)) (value : List ℕ) → IsAdded before after value → (entry : Entry) → has_value after entry ≡ (has_value before entry || bytes_eq value entry.value)
seen_more before after value added entry =
    added entry.value ∙ by_test (is_eq (slice_cmp nat_cmp value entry.value)) (has_value before entry)
    ∙ ap (λ b. has_value before entry || b) (sym (texts_ties value entry.value))

filter_twice : (p : Entry → Bool) (value : List ℕ) (entries : List Entry) →
    filter p (filter (λ other. not (bytes_eq value other.value)) entries) ≡ filter (λ other. p other && not (bytes_eq value other.value)) entries
filter_twice p value [] = refl
filter_twice p value (entry ∷ entries) = elim (cases_Bool (bytes_eq value entry.value)) [
  | inl t ↦ elim (cases_Bool (p entry)) [ inl u ↦ rw (t, u) (filter_twice p value entries) | inr u ↦ rw (t, u) (filter_twice p value entries) ]
  | inr f ↦ elim (cases_Bool (p entry)) [ inl u ↦ rw (f, u) (ap (λ rest. entry ∷ rest) (filter_twice p value entries)) | inr u ↦ rw (f, u) (filter_twice p value entries) ]
]

and_not : (a b : Bool) → (not a && not b) ≡ not (a || b)
and_not true b = refl
and_not false b = refl

-- the entries that are unseen after one more value
unseen_more : (before after : BTreeSet (List ℕ)) (value : List ℕ) (entries : List Entry) → IsAdded before after value →
    unseen before (filter (λ other. not (bytes_eq value other.value)) entries) ≡ unseen after entries
unseen_more before after value entries added =
    filter_twice (λ other. not (has_value before other)) value entries
    ∙ filter_agree (λ other. not (has_value before other) && not (bytes_eq value other.value)) (λ other. not (has_value after other))
    (λ other. and_not (has_value before other) (bytes_eq value other.value) ∙ ap not (sym (seen_more before after value added other))) entries

none_seen : (seen : BTreeSet (List ℕ)) (entries : List Entry) → seen.keys ≡ [] → unseen seen entries ≡ entries
none_seen seen [] e = refl
none_seen seen (entry ∷ entries) e =
    let no : has_value seen entry ≡ false = rw e refl in
    ap (λ b. cond (not b) (entry ∷ unseen seen entries) (unseen seen entries)) no
    ∙ ap (λ rest. entry ∷ rest) (none_seen seen entries e)

-- the steps of the loop
pub values_start : (seen : BTreeSet (List ℕ)) (kept left entries : List Entry) → seen.keys ≡ [] → kept ≡ [] → left ≡ entries →
    kept ++ unseen seen (first_of_values left) ≡ first_of_values entries
values_start seen kept left entries none empty same =
    ap (λ k. k ++ unseen seen (first_of_values left)) empty ∙ none_seen seen (first_of_values left) none ∙ ap first_of_values same

step : (before after : BTreeSet (List ℕ)) (entry : Entry) (left : List Entry) (new : Bool) → IsAdded before after entry.value → new ≡ not (has_value before entry) →
    unseen before (first_of_values (entry ∷ left)) ≡ cond new (entry ∷ unseen after (first_of_values left)) (unseen after (first_of_values left))
step before after entry left new added is =
    let later = unseen before (filter (λ other. not (bytes_eq entry.value other.value)) (first_of_values left)) in
    ap (λ b. cond b (entry ∷ later) later) (sym is)
    ∙ ap (λ (rest : List Entry). cond new (entry ∷ rest) rest) (unseen_more before after entry.value (first_of_values left) added)

-- the value that was looked for is the entry's
abbrev pub IsInserted : BTreeSet (List ℕ) → BTreeSet (List ℕ) → List ℕ → Bool → Type 0
IsInserted before after value new = IsAdded before after value × (new ≡ not (contains (slice_cmp nat_cmp) before value))

pub value_new : (before after : BTreeSet (List ℕ)) (kept more left rest whole : List Entry) (entry : Entry) (value : List ℕ) (new : Bool) → left ≡ entry ∷ rest →
    value ≡ entry.value → IsInserted before after value new → new ≡ true → more ≡ kept ++ entry ∷ [] →
    kept ++ unseen before (first_of_values left) ≡ whole → more ++ unseen after (first_of_values rest) ≡ whole
value_new before after kept more left rest whole entry value new cut named inserted fresh push h =
    let is : IsInserted before after entry.value new = subst (λ v. IsInserted before after v new) named inserted in
    ap (λ m. m ++ unseen after (first_of_values rest)) push
    ∙ append_assoc kept (entry ∷ []) (unseen after (first_of_values rest))
    ∙ ap (λ b. kept ++ cond b (entry ∷ unseen after (first_of_values rest)) (unseen after (first_of_values rest))) (sym fresh)
    ∙ ap (λ r. kept ++ r) (sym (step before after entry rest new is.0 is.1))
    ∙ ap (λ l. kept ++ unseen before (first_of_values l)) (sym cut) ∙ h

pub value_old : (before after : BTreeSet (List ℕ)) (kept left rest whole : List Entry) (entry : Entry) (value : List ℕ) (new : Bool) → left ≡ entry ∷ rest →
    value ≡ entry.value → IsInserted before after value new → new ≡ false →
    kept ++ unseen before (first_of_values left) ≡ whole → kept ++ unseen after (first_of_values rest) ≡ whole
value_old before after kept left rest whole entry value new cut named inserted old h =
    let is : IsInserted before after entry.value new = subst (λ v. IsInserted before after v new) named inserted in
    ap (λ b. kept ++ cond b (entry ∷ unseen after (first_of_values rest)) (unseen after (first_of_values rest))) (sym old)
    ∙ ap (λ r. kept ++ r) (sym (step before after entry rest new is.0 is.1))
    ∙ ap (λ l. kept ++ unseen before (first_of_values l)) (sym cut) ∙ h
