-- Ids and tags that are read one after another.
use Rattle.std.proofs.Common.{◌≡◌, ◌⊎◌, ℕ, suc, ◌+◌, ◌<◌, List, [], ◌∷◌, ◌++◌, Bool, true, false, cond, not, ◌&&◌, ◌||◌, Option, Some, None, length, take, drop, get_or, map, refl, ap, sym, ◌∙◌, inl, inr, arith, append_assoc}
use Rattle.std.specs.Prelude.{filter, option_map}
use Rattle.std.specs.Option.{option_eq, option_or, unwrap_or}
use Rattle.std.specs.Ordering.{is_eq, nat_cmp}
use Rattle.std.specs.Str.{bytes_eq}
use Rattle.std.specs.Cmp.Lexicographic.{slice_cmp, texts_ties}
use Rattle.std.specs.BTreeSet.{BTreeSet, contains}
use Rattle.std.specs.BTreeMap.{BTreeMap, get}
use Rattle.std.proofs.Math.Bool.{or-false, or-true}
use Rattle.std.proofs.lemmas.Bool.{cases_Bool}
use Rattle.std.proofs.lemmas.List.{take_more, take-append-drop, length-map, length-take-le, map-append}
use Rattle.std.proofs.lemmas.List.Elements.{filter_agree}
use Rattle.cc_base.proofs.Lists.{one_more}
use Rattle.cc_candidates.specs.declared.candidate.CompletionCandidate.{CompletionCandidate}
use Rattle.cc_candidates.specs.Candidate.{texts_cmp}
use Rattle.cc_engine.specs.Finished.{share, first_of_ids, has_tag, rank_of}
use Rattle.cc_engine.specs.Seen.{is_seen, select, first_rank}
use Rattle.cc_engine.proofs.Ranks.{same_tags, tag_itself}

by_test : (b x : Bool) → cond b true x ≡ (x || b)
by_test true x = sym (or-true x)
by_test false x = sym (or-false x)

-- the candidates whose ids are not seen
abbrev unseen : BTreeSet (List ℕ) → List CompletionCandidate → List CompletionCandidate
unseen seen cs = filter (λ d. not (is_seen seen d.id)) cs

-- a recorded id is seen from then on
pub seen_more : (before after : BTreeSet (List ℕ)) (id : List ℕ) →
    ((q : List ℕ) → contains (slice_cmp nat_cmp) after q ≡ cond (is_eq (slice_cmp nat_cmp id q)) true (contains (slice_cmp nat_cmp) before q)) →
    (other : Option (List ℕ)) → is_seen after other ≡ (is_seen before other || share (Some id) other)
seen_more before after id updates None = refl
seen_more before after id updates (Some q) =
    updates q ∙ by_test (is_eq (slice_cmp nat_cmp id q)) (contains (slice_cmp nat_cmp) before q)
    ∙ ap (λ b. contains (slice_cmp nat_cmp) before q || b) (sym (texts_ties id q))

same_tag : (a b : Option (List ℕ)) → option_eq bytes_eq a b ≡ is_eq (texts_cmp a b)
same_tag None None = refl
same_tag (Some x) (Some y) = texts_ties x y
same_tag a b = refl

-- a recorded rank is found from then on, if the tag had none
kept_by : (b : Bool) (was : Option ℕ) (next : ℕ) → (b ≡ true → was ≡ None) → cond b (Some next) was ≡ option_or was (cond b (Some next) None)
kept_by true was next h = let e = h refl in rw e refl
kept_by false None next h = refl
kept_by false (Some p) next h = refl

pub filter_more : (p : CompletionCandidate → Bool) (id : Option (List ℕ)) (cs : List CompletionCandidate) →
    filter p (filter (λ d. not (share id d.id)) cs) ≡ filter (λ d. p d && not (share id d.id)) cs
filter_more p id [] = refl
filter_more p id (c ∷ cs) = elim (cases_Bool (share id c.id)) [
  | inl t ↦ elim (cases_Bool (p c)) [ inl u ↦ rw (t, u) (filter_more p id cs) | inr u ↦ rw (t, u) (filter_more p id cs) ]
  | inr f ↦ elim (cases_Bool (p c)) [ inl u ↦ rw (f, u) (ap (λ rest. c ∷ rest) (filter_more p id cs)) | inr u ↦ rw (f, u) (filter_more p id cs) ]
]

and_not : (a b : Bool) → (not a && not b) ≡ not (a || b)
and_not true b = refl
and_not false b = refl

-- the seen ids with one more drop what a filter for that id drops after them
pub unseen_more : (before after : BTreeSet (List ℕ)) (c : CompletionCandidate) (cs : List CompletionCandidate) →
    ((other : Option (List ℕ)) → is_seen after other ≡ (is_seen before other || share c.id other)) →
    filter (λ d. not (is_seen before d.id)) (filter (λ d. not (share c.id d.id)) cs) ≡ filter (λ d. not (is_seen after d.id)) cs
unseen_more before after c cs more =
    filter_more (λ d. not (is_seen before d.id)) c.id cs
    ∙ filter_agree (λ d. not (is_seen before d.id) && not (share c.id d.id)) (λ d. not (is_seen after d.id))
    (λ d. and_not (is_seen before d.id) (share c.id d.id) ∙ ap not (sym (more d.id))) cs

-- a candidate with a new id stays, one with a seen id goes
next_unseen : (before after : BTreeSet (List ℕ)) (c : CompletionCandidate) (cs : List CompletionCandidate) →
    ((other : Option (List ℕ)) → is_seen after other ≡ (is_seen before other || share c.id other)) →
    (new : Bool) → new ≡ not (is_seen before c.id) →
    unseen before (first_of_ids (c ∷ cs)) ≡ cond new (c ∷ []) [] ++ unseen after (first_of_ids cs)
next_unseen before after c cs more new is =
    let later = unseen before (filter (λ d. not (share c.id d.id)) (first_of_ids cs)) in
    ap (λ b. cond b (c ∷ later) later) (sym is) ∙ one_or_none new later
    ∙ ap (λ rest. cond new (c ∷ []) [] ++ rest) (unseen_more before after c (first_of_ids cs) more)
  where
    one_or_none : (new : Bool) (rest : List CompletionCandidate) → cond new (c ∷ rest) rest ≡ cond new (c ∷ []) [] ++ rest
    one_or_none true rest = refl
    one_or_none false rest = refl

-- no id is seen at first
pub none_seen : (seen : BTreeSet (List ℕ)) (cs : List CompletionCandidate) → seen.keys ≡ [] → filter (λ d. not (is_seen seen d.id)) cs ≡ cs
none_seen seen [] e = refl
none_seen seen (c ∷ cs) e =
    let no : is_seen seen c.id ≡ false = not_seen c.id in
    ap (λ b. cond (not b) (c ∷ filter (λ d. not (is_seen seen d.id)) cs) (filter (λ d. not (is_seen seen d.id)) cs)) no
    ∙ ap (λ rest. c ∷ rest) (none_seen seen cs e)
  where
    not_seen : (id : Option (List ℕ)) → is_seen seen id ≡ false
    not_seen None = refl
    not_seen (Some id) = rw e refl

-- marks
select-push : {X : Type 0} → (marks : List Bool) (xs : List X) (mark : Bool) (x : X) → length marks ≡ length xs →
    select (marks ++ mark ∷ []) (xs ++ x ∷ []) ≡ select marks xs ++ cond mark (x ∷ []) []
select-push [] [] true x e = refl
select-push [] [] false x e = refl
select-push [] (y ∷ ys) mark x e = absurd (omega (arith, e))
select-push (m ∷ ms) [] mark x e = absurd (omega (arith, e))
select-push (m ∷ ms) (y ∷ ys) mark x e = by m (select-push ms ys mark x (omega (arith, e)))
  where
    by : (m : Bool) → select (ms ++ mark ∷ []) (ys ++ x ∷ []) ≡ select ms ys ++ cond mark (x ∷ []) []
        → cond m (y ∷ select (ms ++ mark ∷ []) (ys ++ x ∷ [])) (select (ms ++ mark ∷ []) (ys ++ x ∷ []))
        ≡ cond m (y ∷ select ms ys) (select ms ys) ++ cond mark (x ∷ []) []
    by true h = ap (λ r. y ∷ r) h
    by false h = h

pub marked_end : {X : Type 0} → (marks : List Bool) (xs : List X) → (marks ≡ []) ⊎ (xs ≡ []) → select marks xs ≡ []
marked_end marks xs (inl e) = ap (λ ms. select ms xs) e
marked_end [] xs (inr e) = refl
marked_end (m ∷ ms) xs (inr e) = ap (select (m ∷ ms)) e

-- up to a member at its index
pub taken : (cs : List CompletionCandidate) (i : ℕ) (c : CompletionCandidate) → i < length cs → c ≡ get_or cs i c →
    take (i + 1) cs ≡ take i cs ++ c ∷ []
taken cs i c h is = take_more cs i c h ∙ ap (λ x. take i cs ++ x ∷ []) (sym is)

-- the steps of the loop
pub unseen_first : (seen : BTreeSet (List ℕ)) (marks : List Bool) (cs : List CompletionCandidate) → seen.keys ≡ [] → marks ≡ [] →
    select marks [] ++ filter (λ d. not (is_seen seen d.id)) (first_of_ids cs) ≡ first_of_ids cs
unseen_first seen marks cs none empty =
    ap (λ (ms : List Bool). select ms [] ++ unseen seen (first_of_ids cs)) empty ∙ none_seen seen (first_of_ids cs) none

pub marks_on : (before after : BTreeSet (List ℕ)) (marks more : List Bool) (cs : List CompletionCandidate) (i : ℕ) (c : CompletionCandidate) (new : Bool) →
    i < length cs → c ≡ get_or cs i c → length marks ≡ i →
    select marks (take i cs) ++ filter (λ d. not (is_seen before d.id)) (first_of_ids (drop i cs)) ≡ first_of_ids cs →
    ((other : Option (List ℕ)) → is_seen after other ≡ (is_seen before other || share c.id other)) →
    new ≡ not (is_seen before c.id) → more ≡ marks ++ new ∷ [] →
    select more (take (i + 1) cs) ++ filter (λ d. not (is_seen after d.id)) (first_of_ids (drop (i + 1) cs)) ≡ first_of_ids cs
marks_on before after marks more cs i c new within is count h add e push =
    ap (λ ms. select ms (take (i + 1) cs) ++ unseen after (first_of_ids (drop (i + 1) cs))) push
    ∙ ap (λ xs. select (marks ++ new ∷ []) xs ++ unseen after (first_of_ids (drop (i + 1) cs))) (taken cs i c within is)
    ∙ ap (λ xs. xs ++ unseen after (first_of_ids (drop (i + 1) cs))) (select-push marks (take i cs) new c (count ∙ sym (length-take-le i cs (omega (arith, within)))))
    ∙ append_assoc (select marks (take i cs)) (cond new (c ∷ []) []) (unseen after (first_of_ids (drop (i + 1) cs)))
    ∙ ap (λ r. select marks (take i cs) ++ r) (sym (next_unseen before after c (drop (i + 1) cs) add new e) ∙ ap (λ xs. unseen before (first_of_ids xs)) (sym (one_more cs i c c within is)))
    ∙ h

-- first ranks with one more candidate at the end
pub first_rank-push : (cs : List CompletionCandidate) (c : CompletionCandidate) (tag : Option (List ℕ)) →
    first_rank (cs ++ c ∷ []) tag ≡ option_or (first_rank cs tag) (cond (option_eq bytes_eq c.tag tag) (Some (length cs)) None)
first_rank-push [] c tag = refl
first_rank-push (x ∷ cs) c tag = elim (cases_Bool (option_eq bytes_eq x.tag tag)) [
  | inl t ↦ rw t refl
  | inr f ↦ rw f (ap (option_map suc) (first_rank-push cs c tag) ∙ moved (first_rank cs tag) (option_eq bytes_eq c.tag tag))
]
  where
    moved : (was : Option ℕ) (b : Bool) → option_map suc (option_or was (cond b (Some (length cs)) None)) ≡ option_or (option_map suc was) (cond b (Some (suc (length cs))) None)
    moved None true = refl
    moved was b = refl

-- a tag without a rank gets one
pub rank_added : (before after : BTreeMap (Option (List ℕ)) ℕ) (tag : Option (List ℕ)) (next : ℕ) → get texts_cmp before tag ≡ None →
    ((q : Option (List ℕ)) → get texts_cmp after q ≡ cond (is_eq (texts_cmp tag q)) (Some next) (get texts_cmp before q)) →
    (other : Option (List ℕ)) → get texts_cmp after other ≡ option_or (get texts_cmp before other) (cond (option_eq bytes_eq tag other) (Some next) None)
rank_added before after tag next none updates other =
    updates other ∙ ap (λ b. cond b (Some next) (get texts_cmp before other)) (sym (same_tag tag other))
    ∙ kept_by (option_eq bytes_eq tag other) (get texts_cmp before other) next (λ t. ap (get texts_cmp before) (sym (same_tags tag other t)) ∙ none)

-- the rank of a tag in the whole list, from the candidates before
rank_is : (cs ds : List CompletionCandidate) (c : CompletionCandidate) →
    unwrap_or (first_rank cs c.tag) (length cs) ≡ rank_of (cs ++ c ∷ ds) c.tag
rank_is [] ds c = let e = tag_itself c.tag in rw e refl
rank_is (x ∷ cs) ds c = elim (cases_Bool (has_tag c.tag x)) [
  | inl t ↦ rw t refl
  | inr f ↦ rw f (more (first_rank cs c.tag) ∙ ap suc (rank_is cs ds c))
]
  where
    more : (was : Option ℕ) → unwrap_or (option_map suc was) (suc (length cs)) ≡ suc (unwrap_or was (length cs))
    more None = refl
    more (Some p) = refl

-- one more rank
pub ranks_on : (cs : List CompletionCandidate) (i : ℕ) (c : CompletionCandidate) (ranks more : List ℕ) (was : Option ℕ) (n rank : ℕ) →
    i < length cs → c ≡ get_or cs i c → ranks ≡ map (λ c. rank_of cs c.tag) (take i cs) →
    was ≡ first_rank (take i cs) c.tag → n ≡ length ranks → rank ≡ unwrap_or was n → more ≡ ranks ++ rank ∷ [] →
    more ≡ map (λ c. rank_of cs c.tag) (take (i + 1) cs)
ranks_on cs i c ranks more was n rank within is insert e len value push =
    let whole : take i cs ++ c ∷ drop (i + 1) cs ≡ cs = ap (λ r. take i cs ++ r) (sym (one_more cs i c c within is)) ∙ take-append-drop i cs in
    let at : rank ≡ rank_of cs c.tag =
    value ∙ ap (λ w. unwrap_or w n) e
    ∙ ap (unwrap_or (first_rank (take i cs) c.tag)) (len ∙ ap length insert ∙ length-map (take i cs) (λ c. rank_of cs c.tag))
    ∙ rank_is (take i cs) (drop (i + 1) cs) c ∙ ap (λ xs. rank_of xs c.tag) whole in
    push ∙ ap (λ k. k ++ rank ∷ []) insert ∙ ap (λ q. map (λ c. rank_of cs c.tag) (take i cs) ++ q ∷ []) at
    ∙ sym (map-append (λ (c : CompletionCandidate). rank_of cs c.tag) (take i cs) (c ∷ []))
    ∙ ap (map (λ c. rank_of cs c.tag)) (sym (taken cs i c within is))

pub known_on : (before after : BTreeMap (Option (List ℕ)) ℕ) (cs : List CompletionCandidate) (i : ℕ) (c : CompletionCandidate) (ranks : List ℕ) (n : ℕ) →
    i < length cs → c ≡ get_or cs i c → ranks ≡ map (λ c. rank_of cs c.tag) (take i cs) → n ≡ length ranks →
    ((tag : Option (List ℕ)) → get texts_cmp before tag ≡ first_rank (take i cs) tag) →
    ((other : Option (List ℕ)) → get texts_cmp after other ≡ option_or (get texts_cmp before other) (cond (option_eq bytes_eq c.tag other) (Some n) None)) →
    (tag : Option (List ℕ)) → get texts_cmp after tag ≡ first_rank (take (i + 1) cs) tag
known_on before after cs i c ranks n within is insert len h kept tag =
    kept tag ∙ ap (λ x. option_or x (cond (option_eq bytes_eq c.tag tag) (Some n) None)) (h tag)
    ∙ ap (λ k. option_or (first_rank (take i cs) tag) (cond (option_eq bytes_eq c.tag tag) (Some k) None))
    (len ∙ ap length insert ∙ length-map (take i cs) (λ c. rank_of cs c.tag))
    ∙ sym (first_rank-push (take i cs) c tag) ∙ ap (λ xs. first_rank xs tag) (sym (taken cs i c within is))
