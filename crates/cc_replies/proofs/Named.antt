-- Variables with their names.
use Rattle.std.proofs.Common.{◌≡◌, ◌<◌, ◌++◌, ◌∷◌, [], ℕ, List, Bor, Contains, IfSome, Option, Some, String, get_or, length, map, string_bytes, subst, sym}
use Rattle.std.proofs.lemmas.List.Elements.{Contains-get_or}
use Rattle.std.specs.List.{AllByRecursion}
use Rattle.std.specs.declared.alloc.Global.{Global}
use Rattle.cc_base.proofs.Members.{AllByRecursion-append, Contains-from_IsIn, IsIn-from_Contains, map-IsIn}

abbrev pub Variable : Type 0
Variable = String Global × String Global

abbrev pub Named : List (Bor (List ℕ)) → Variable → Type 0
Named names variable = Contains (map (λ name. name.now) names) (string_bytes variable.0)

-- with one more variable, which has one of the names
pub more_named : (names : List (Bor (List ℕ))) (i : ℕ) (d : Bor (List ℕ)) (found : List Variable) (one : Variable) → i < length names
    → string_bytes one.0 ≡ (get_or names i d).now → AllByRecursion (Named names) found → AllByRecursion (Named names) (found ++ one ∷ [])
more_named names i d found one less same all =
    let name : Bor (List ℕ) = get_or names i d in
    let all_names : List (List ℕ) = map (λ name. name.now) names in
    AllByRecursion-append (Named names) found (one ∷ []) all (
      subst (λ (text : List ℕ). Contains all_names text) (sym same)
          (Contains-from_IsIn all_names name.now (map-IsIn (λ name. name.now) names name
          (IsIn-from_Contains names name (Contains-get_or names i d less)))),
      tt,
    )

-- the same of a list that is known by another term, and of one more that is known to have its name
pub with_named : (names : List (Bor (List ℕ))) (i : ℕ) (d : Bor (List ℕ)) (found after : List Variable)
    (given : Option Variable) (one : Variable) → after ≡ found ++ one ∷ [] → given ≡ Some one → i < length names
    → IfSome given (λ variable. string_bytes variable.0 ≡ (get_or names i d).now)
    → AllByRecursion (Named names) found → AllByRecursion (Named names) after
with_named names i d found after given one is given_is less same all =
    subst (λ (xs : List Variable). AllByRecursion (Named names) xs) (sym is)
    (more_named names i d found one less
    (subst (λ o. IfSome o (λ variable. string_bytes variable.0 ≡ (get_or names i d).now)) given_is same) all)
