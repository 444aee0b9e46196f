-- A slot holds the value at the key of its index.
use Rattle.std.proofs.Common.{◌≡◌, ◌∙◌, ◌+◌, ◌<◌, ◌&&◌, ℕ, Bool, true, List, [], ◌∷◌, Option, None, ap, arith, bytes_eq}
use Rattle.std.proofs.Common.{Bor, Global, get_or, length, sym}
use Rattle.std.specs.Prelude.{nat_lt}
use Rattle.std.proofs.lemmas.Bool.{and_parts}
use Rattle.std.proofs.lemmas.List.{get_or-map, get_or_append_left, length-append, length-map}
use Rattle.std.proofs.lemmas.Slice.Eq.{bytes_eq-Decides}
use Rattle.json.specs.declared.value.Value.{Value}
use Rattle.serde_json.specs.Data.{Data}
use Rattle.serde_json.specs.Find.{get}
use Rattle.complgen_tree_file.specs.JsonSlots.{Hold, held, values_at}
use Rattle.complgen_tree_file.specs.Slots.{AreHeldFrom}
use Rattle.complgen_tree_file.specs.TreeForm.{Setting}

abbrev pub Slot : Type 0
Slot = Option (Bor (Value Global))

pub held_at : (slots : List Slot) (keys : List (List ℕ)) (d : Data) (k : ℕ) (other : Slot)
    → Hold slots (values_at keys d) → nat_lt k (length keys) ≡ true
    → held (get_or slots k other) ≡ get (get_or keys k []) d
held_at slots keys d k other holds is_key =
    let inside : k < length keys = grind (arith, is_key) in
    let keyed : k < length (values_at keys d) = omega (arith, inside, length-map keys (λ key. get key d)) in
    let long = length-append (values_at keys d) holds.0 in
    let within : k < length slots =
    omega (arith, keyed, long, ap length holds.1, length-map slots held) in
    sym (get_or-map held slots k other None within)
    ∙ ap (λ os. get_or os k None) holds.1
    ∙ get_or_append_left (values_at keys d) holds.0 None k keyed
    ∙ get_or-map (λ key. get key d) keys k [] None inside

-- whether the keys of some settings follow each other in a list from an index on
abbrev pub stand_from : {S : Type 0} → ℕ → List (Setting S) → List (List ℕ) → Bool
stand_from k [] keys = true
stand_from k (one ∷ settings) keys =
    (nat_lt k (length keys) && bytes_eq (get_or keys k []) one.key) && stand_from (k + 1) settings keys

pub held_from : {S : Type 0} (k : ℕ) (settings : List (Setting S)) (keys : List (List ℕ))
    (slots : List Slot) (d : Data) → Hold slots (values_at keys d) → stand_from k settings keys ≡ true
    → AreHeldFrom k settings slots d
held_from k [] keys slots d holds e = tt
held_from k (one ∷ settings) keys slots d holds e =
    let both = and_parts _ _ e in
    let here = and_parts _ _ both.0 in (
      held_at slots keys d k None holds here.0
          ∙ ap (λ key. get key d) ((bytes_eq-Decides (get_or keys k []) one.key).0 here.1),
      held_from (k + 1) settings keys slots d holds both.1,
    )
