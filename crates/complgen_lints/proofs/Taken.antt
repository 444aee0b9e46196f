-- The steps of a loop over names that looks for those that are already taken.
use Rattle.std.proofs.Common.{◌≡◌, ◌∙◌, ap, ap₂, sym, ℕ, ◌+◌, ◌<◌, List, [], ◌∷◌, ◌++◌, length, drop, take, get_or, Option}
use Rattle.std.proofs.lemmas.List.{append_assoc, drop_more, take_more}
use Rattle.complgen_lints.specs.PlacedNames.{owner_with, taken_by, taken_from}
use Rattle.complgen_lints.specs.declared.found.Finding.{Finding}
use Rattle.complgen_lints.specs.declared.names.PlacedName.{PlacedName}
use Rattle.complgen_lints.specs.declared.warning.Premise.{Premise}

-- the findings, with that about one more name
pub next_taken : (found new whole : List (Finding Premise)) (names : List PlacedName) (index : ℕ) (name : PlacedName) (owner : Option (List ℕ)) →
    index < length names → name ≡ get_or names index name →
    owner ≡ owner_with (take index names) name.name →
    new ≡ found ++ taken_by owner name →
    found ++ taken_from (take index names) (drop index names) ≡ whole →
    new ++ taken_from (take (index + 1) names) (drop (index + 1) names) ≡ whole
next_taken found new whole names index name owner within is known added left =
    let before = take index names in
    let rest = drop (index + 1) names in
    ap₂ (λ some before. some ++ taken_from before rest) added
    (take_more names index name within ∙ ap (λ one. before ++ one ∷ []) (sym is))
    ∙ append_assoc found (taken_by owner name) (taken_from (before ++ name ∷ []) rest)
    ∙ ap (λ owner. found ++ (taken_by owner name ++ taken_from (before ++ name ∷ []) rest)) known
    ∙ ap (λ list. found ++ taken_from before list) (ap (λ one. one ∷ rest) is ∙ sym (drop_more names index name within))
    ∙ left
