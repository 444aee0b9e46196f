use Rattle.std.proofs.Common.{◌∙◌, ◌<◌, ◌++◌, Some, ap, arith, bytes_eq, length, map, sym, ◌≡◌, ℕ, zero, suc, Bool, true, false, List, [], ◌∷◌, ap₂, get_or, refl, subst, true≢false}
use Rattle.std.specs.Prelude.{slice_set}
use Rattle.std.proofs.lemmas.List.{length-map, map-set, set-append_left}
use Rattle.std.specs.List.{list_any}
use Rattle.std.proofs.lemmas.Slice.Eq.{bytes_eq-Decides}
use Rattle.std.proofs.lemmas.Bool.{or_parts, and_parts, not-true}
use Rattle.std.proofs.lemmas.List.Folds.{list_any_at}
use Rattle.serde_json.specs.Find.{get_member}
use Rattle.serde_json.specs.Data.{Data, Members, put}
use Rattle.serde_json.proofs.Views.{get_member-put, get_member-put_other}
use Rattle.complgen_tree_file.specs.JsonSeen.{view}
use Rattle.complgen_tree_file.specs.JsonSlots.{held, members_at, are_distinct}
use Rattle.complgen_tree_file.proofs.JsonFound.{Key, list_any-map}
use Rattle.complgen_tree_file.proofs.json_values.object.place.Goals as goal

-- A value put at a key is in the key's slot, and in no other.
other_kept : (l key : List ℕ) (d : Data) (ms : Members) → bytes_eq l key ≡ false
    → get_member l ms ≡ get_member l (put key d ms)
other_kept l key d ms e = sym (get_member-put_other l key d ms
    (λ same. absurd (true≢false (sym ((bytes_eq-Decides l key).1 same) ∙ e))))

all_kept : (ks : List (List ℕ)) (key : List ℕ) (d : Data) (ms : Members)
    → list_any (λ l. bytes_eq l key) ks ≡ false → members_at ks ms ≡ members_at ks (put key d ms)
all_kept [] key d ms e = refl
all_kept (l ∷ ks) key d ms e =
    let both = or_parts (bytes_eq l key) (list_any (λ l. bytes_eq l key) ks) e in
    ap₂ (λ o os. o ∷ os) (other_kept l key d ms both.0) (all_kept ks key d ms both.1)

placed : (ks : List (List ℕ)) (k : ℕ) (key : List ℕ) (d : Data) (ms : Members)
    → are_distinct ks ≡ true → k < length ks → bytes_eq (get_or ks k []) key ≡ true
    → slice_set (members_at ks ms) k (Some d) ≡ members_at ks (put key d ms)
placed [] k key d ms distinct h e = absurd (omega arith)
placed (l ∷ ks) zero key d ms distinct h e =
    let same : l ≡ key = (bytes_eq-Decides l key).0 e in
    let here : get_member l (put key d ms) ≡ Some d =
    subst (λ name. get_member name (put key d ms) ≡ Some d) (sym same) (get_member-put key d ms) in
    let alone = not-true _ (and_parts _ _ distinct).0 in
    let rest : list_any (λ other. bytes_eq other key) ks ≡ false =
    subst (λ name. list_any (λ other. bytes_eq other name) ks ≡ false) same alone in
    ap₂ (λ o os. o ∷ os) (sym here) (all_kept ks key d ms rest)
placed (l ∷ ks) (suc k) key d ms distinct h e =
    let both = and_parts _ _ distinct in
    let at_key : get_or ks k [] ≡ key = (bytes_eq-Decides (get_or ks k []) key).0 e in
    let there = λ (same : l ≡ key). list_any_at (λ other. bytes_eq other l) ks k [] (omega (arith, h))
    ((bytes_eq-Decides (get_or ks k []) l).1 (at_key ∙ sym same)) in
    let other : bytes_eq l key ≡ false = unequal l key (λ same.
    true≢false (sym (there same) ∙ not-true _ both.0)) in
    ap₂ (λ o os. o ∷ os) (other_kept l key d ms other)
    (placed ks k key d ms both.1 (omega (arith, h)) e)
  where
    by : (b : Bool) (l key : List ℕ) → bytes_eq l key ≡ b → (l ≡ key → ⊥) → b ≡ false
    by true l key e apart = absurd (apart ((bytes_eq-Decides l key).0 e))
    by false l key e apart = refl

    unequal : (l key : List ℕ) → (l ≡ key → ⊥) → bytes_eq l key ≡ false
    unequal l key apart = by (bytes_eq l key) l key refl apart

pub returns-in-Some-clause-placed : goal.returns-in-Some-clause-placed
returns-in-Some-clause-placed c ms before =
    let ks = map (λ key. key.now) c.args.keys.now in
    let index = c.in-Some.index in
    let d = view c.args.value.now in
    let found = c.in-Some.ensures.some in
    let inside : index < length ks = omega (arith, length-map c.args.keys.now (λ key. key.now), found.0) in
    let within : index < length (members_at ks ms) = omega (arith, inside, length-map ks (λ key. get_member key ms)) in (
      before.0,
      map-set held c.args.slots.now index (Some c.args.value)
          ∙ ap (λ os. slice_set os index (Some d)) before.1
          ∙ set-append_left (members_at ks ms) before.0 index (Some d) within
          ∙ ap (λ os. os ++ before.0) (placed ks index c.args.key.now d ms c.requires.distinct inside found.1),
    )

pub returns-in-None-clause-placed : goal.returns-in-None-clause-placed
returns-in-None-clause-placed c ms before =
    let ks = map (λ key. key.now) c.args.keys.now in
    let key = c.args.key.now in (
      before.0,
      before.1 ∙ ap (λ os. os ++ before.0) (all_kept ks key (view c.args.value.now) ms
          (sym (list_any-map (λ known. bytes_eq known key) (λ (known : Key). known.now) c.args.keys.now)
          ∙ c.in-None.ensures.none)),
    )
