-- The name of a program, from the name of its tree file.
use Rattle.std.proofs.Common.{◌≡◌, ◌≢◌, ◌∙◌, ap, refl, sym, ℕ, ◌+◌, ◌-◌, inl, inr, List, ◌++◌, length, take, cond, true, Option, None, Some}
use Rattle.std.specs.Prelude.{MatchOption, nat_eq}
use Rattle.std.specs.Borrow.{Bor}
use Rattle.std.specs.List.{ends_with}
use Rattle.std.specs.Option.{option_copied}
use Rattle.std.specs.Str.{IsCharBoundary}
use Rattle.std.proofs.lemmas.Bool.{cases_Bool}
use Rattle.std.proofs.lemmas.Bool.Decides.{Decides-eqb}
use Rattle.std.proofs.lemmas.Slice.Eq.{ends_is}
use Rattle.complgen_live.specs.TreeFiles.{ending, tree_stem}

-- what is left of a name without the ending
pub stem_is : (name : List ℕ) (stem : Option (Bor (List ℕ)))
    → MatchOption stem ((front : List ℕ) → name ≢ front ++ ending)
    (λ x. (n : ℕ) × ((n ≡ length ending) × (name ≡ take (length name - n) name ++ ending)
    × IsCharBoundary name (length name - length ending)) × (x.now ≡ take (length name - n) name)
    × (length x.now + n ≡ length name))
    → option_copied stem ≡ tree_stem name
stem_is name None none = elim (cases_Bool (ends_with nat_eq name ending)) [
  | inl ends ↦ absurd (none _ ((ends_is Decides-eqb name ending _ refl).0 ends))
  | inr other ↦ rw other
]
stem_is name (Some x) (n, found, is, long) =
    let ends : ends_with nat_eq name ending ≡ true =
    (ends_is Decides-eqb name ending _ refl).1 (take (length name - n) name) found.1 in
    ap Some (is ∙ ap (λ k. take (length name - k) name) found.0)
    ∙ sym (ap (λ b. cond b (Some (take (length name - length ending) name)) None) ends)
