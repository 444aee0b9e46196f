-- The loops write the names, joined by spaces.
use Rattle.std.proofs.Common.{◌≡◌, ◌∙◌, ap, sym, refl, ℕ, suc, ◌-◌, ◌≤◌, List, [], ◌∷◌, ◌++◌, map, replicate, length, Bool, true, codes, arith, max}
use Rattle.std.specs.Prelude.{flat_map}
use Rattle.cc_base.specs.Joined.{joined, joined_after}
use Rattle.cc_arg.specs.declared.parts.ArgParts.{ArgParts as Arg}
use Rattle.cc_arg.specs.Arguments.{range_of}
use Rattle.cc_arg.specs.Printed.{further, is_optional, names_for, placeholder, printed_names}

after_first : (optional : Bool) (names : List (List ℕ)) → joined_after (codes " ") true (map (placeholder optional) names) ≡ flat_map (further optional) names
after_first optional [] = refl
after_first optional (name ∷ names) = ap (λ text. further optional name ++ text) (after_first optional names)

all : (optional : Bool) (name : List ℕ) (names : List (List ℕ)) → joined (codes " ") (map (placeholder optional) (name ∷ names)) ≡ placeholder optional name ++ flat_map (further optional) names
all optional name names = ap (λ text. placeholder optional name ++ text) (after_first optional names)

alone : (optional : Bool) (name : List ℕ) (times : ℕ) → 1 ≤ times → joined (codes " ") (map (placeholder optional) (replicate times name)) ≡ placeholder optional name ++ flat_map (further optional) (replicate (times - 1) name)
alone optional name times some =
    let one_more : times ≡ suc (times - 1) = omega arith in
    ap (λ n. joined (codes " ") (map (placeholder optional) (replicate n name))) one_more ∙ all optional name (replicate (times - 1) name)

module _ (arg : Arg) (optional : Bool) (is : optional ≡ is_optional arg) where
  by_names : (names : List (List ℕ)) → names ≡ arg.value_names → joined (codes " ") (map (placeholder optional) (names_for (max 1 (range_of arg).least) arg.id names)) ≡ printed_names arg
  unfolding printed_names
  by_names names same i = joined (codes " ") (map (placeholder (is i)) (names_for (max 1 (range_of arg).least) arg.id (same i)))

  pub names_none : (names : List (List ℕ)) (times : ℕ) (id : List ℕ) → names ≡ arg.value_names → length names ≡ 0 → times ≡ max (range_of arg).least 1 → id ≡ arg.id
      → placeholder optional id ++ flat_map (further optional) (replicate (times - 1) id) ≡ printed_names arg
  names_none (other ∷ names) times id same none counted own = absurd (omega (arith, none))
  names_none [] times id same none counted own =
      ap (λ n. placeholder optional id ++ flat_map (further optional) (replicate (n - 1) id)) (omega (arith, counted))
      ∙ sym (alone optional id (max 1 (range_of arg).least) (omega arith))
      ∙ ap (λ name. joined (codes " ") (map (placeholder optional) (replicate (max 1 (range_of arg).least) name))) own
      ∙ by_names [] same

  pub names_one : (names others : List (List ℕ)) (times : ℕ) (name given : List ℕ) → names ≡ arg.value_names → names ≡ name ∷ others → length others ≡ 0 → given ≡ name → times ≡ max (range_of arg).least 1
      → placeholder optional given ++ flat_map (further optional) (replicate (times - 1) given) ≡ printed_names arg
  names_one names (other ∷ others) times name given same first none own counted = absurd (omega (arith, none))
  names_one names [] times name given same first none own counted =
      ap (λ n. placeholder optional given ++ flat_map (further optional) (replicate (n - 1) given)) (omega (arith, counted))
      ∙ sym (alone optional given (max 1 (range_of arg).least) (omega arith))
      ∙ ap (λ name. joined (codes " ") (map (placeholder optional) (replicate (max 1 (range_of arg).least) name))) own
      ∙ by_names (name ∷ []) (sym first ∙ same)

  pub names_more : (names others : List (List ℕ)) (name given : List ℕ) → names ≡ arg.value_names → names ≡ name ∷ others → (length others ≡ 0 → ⊥) → given ≡ name
      → placeholder optional given ++ flat_map (further optional) others ≡ printed_names arg
  names_more names [] name given same first some own = absurd (some refl)
  names_more names (other ∷ others) name given same first some own =
      ap (λ text. placeholder optional text ++ flat_map (further optional) (other ∷ others)) own
      ∙ sym (all optional name (other ∷ others))
      ∙ by_names (name ∷ other ∷ others) (sym first ∙ same)
