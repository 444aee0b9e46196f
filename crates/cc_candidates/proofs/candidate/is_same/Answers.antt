use Rattle.std.proofs.Common.{◌≡◌, ℕ, List, Bool, true, false, Option, Some, None, refl, ap, sym, ◌∙◌}
use Rattle.std.specs.declared.cmp.Ordering.{Ordering}
use Rattle.std.specs.declared.cmp.Ordering.TheVariants.{Less, Equal, Greater}
use Rattle.std.specs.Option.{option_cmp}
use Rattle.std.specs.Ordering.{is_eq, eq_by_cmp, nat_cmp, bool_cmp, ordering_then}
use Rattle.std.specs.Prelude.{Decides}
use Rattle.std.specs.Cmp.Lexicographic.{slice_cmp, texts_ties, same_text}
use Rattle.std.proofs.lemmas.Cmp.{ranked, tied_itself}
use Rattle.cc_candidates.specs.declared.candidate.CompletionCandidate.{CompletionCandidate}
use Rattle.cc_candidates.specs.Candidate.{candidate_cmp, candidate_cmp_total, texts_cmp}
use Rattle.cc_candidates.proofs.candidate.is_same.Goals as goal

-- Candidates that the order calls equal are the same.
both : (r s : Ordering) → ordering_then r s ≡ Equal → (r ≡ Equal) × (s ≡ Equal)
both Less s e = cc
both Equal s e = (refl, e)
both Greater s e = cc

texts : (x y : List ℕ) → slice_cmp nat_cmp x y ≡ Equal → x ≡ y
texts x y e = same_text x y (sym (texts_ties x y ∙ ap is_eq e))

options : {X : Type 0} (cmp : X → X → Ordering) → ((x y : X) → cmp x y ≡ Equal → x ≡ y) → (a b : Option X) → option_cmp cmp a b ≡ Equal → a ≡ b
options cmp is None None e = refl
options cmp is None (Some y) e = cc
options cmp is (Some x) None e = cc
options cmp is (Some x) (Some y) e = ap Some (is x y e)

numbers : (x y : ℕ) → nat_cmp x y ≡ Equal → x ≡ y
numbers x y e = ranked x y Equal (sym e)

booleans : (x y : Bool) → bool_cmp x y ≡ Equal → x ≡ y
booleans true true e = refl
booleans true false e = cc
booleans false true e = cc
booleans false false e = refl

equal_is_one : (a b : CompletionCandidate) → candidate_cmp a b ≡ Equal → a ≡ b
equal_is_one a b e =
    let f = both (ordering_then (ordering_then (ordering_then (ordering_then (slice_cmp nat_cmp a.value b.value) (texts_cmp a.help b.help)) (texts_cmp a.id b.id)) (texts_cmp a.tag b.tag)) (option_cmp nat_cmp a.display_order b.display_order)) (bool_cmp a.hidden b.hidden) e in
    let o = both (ordering_then (ordering_then (ordering_then (slice_cmp nat_cmp a.value b.value) (texts_cmp a.help b.help)) (texts_cmp a.id b.id)) (texts_cmp a.tag b.tag)) (option_cmp nat_cmp a.display_order b.display_order) f.0 in
    let t = both (ordering_then (ordering_then (slice_cmp nat_cmp a.value b.value) (texts_cmp a.help b.help)) (texts_cmp a.id b.id)) (texts_cmp a.tag b.tag) o.0 in
    let d = both (ordering_then (slice_cmp nat_cmp a.value b.value) (texts_cmp a.help b.help)) (texts_cmp a.id b.id) t.0 in
    let h = both (slice_cmp nat_cmp a.value b.value) (texts_cmp a.help b.help) d.0 in
    one a b (texts a.value b.value h.0) (options (slice_cmp nat_cmp) texts a.help b.help h.1) (options (slice_cmp nat_cmp) texts a.id b.id d.1)
    (options (slice_cmp nat_cmp) texts a.tag b.tag t.1) (options nat_cmp numbers a.display_order b.display_order o.1) (booleans a.hidden b.hidden f.1)
  where
    one : (a b : CompletionCandidate) → a.value ≡ b.value → a.help ≡ b.help → a.id ≡ b.id → a.tag ≡ b.tag → a.display_order ≡ b.display_order → a.hidden ≡ b.hidden → a ≡ b
    one a b v h d t o f = λ i. record { value = v i; help = h i; id = d i; tag = t i; display_order = o i; hidden = f i }

-- so equality of candidates means equality of all fields
decides : (a b : CompletionCandidate) (r : Bool) → r ≡ eq_by_cmp candidate_cmp a b → Decides r (a ≡ b)
decides a b r is = by (candidate_cmp a b) refl r is
  where
    apart : (o : Ordering) → candidate_cmp a b ≡ o → a ≡ b → o ≡ Equal
    apart o e same = sym e ∙ ap (candidate_cmp a) (sym same) ∙ tied_itself candidate_cmp_total a

    by : (o : Ordering) → candidate_cmp a b ≡ o → (r : Bool) → r ≡ is_eq o → Decides r (a ≡ b)
    by Equal e true h = (λ t. equal_is_one a b e, λ same. refl)
    by Equal e false h = cc
    by Less e true h = cc
    by Less e false h = (λ t. cc, λ same. let no : Less ≡ Equal = apart Less e same in cc)
    by Greater e true h = cc
    by Greater e false h = (λ t. cc, λ same. let no : Greater ≡ Equal = apart Greater e same in cc)

pub returns : goal.returns
returns c = decides c.args.one.now c.args.other.now c.eq.result c.eq.ensures
