-- Texts from bytes.
use Rattle.std.proofs.Common.{◌≡◌, refl, sym, ap, ◌∙◌, ℕ, suc, zero, List, [], ◌∷◌, ◌++◌, ◌<◌, ◌≤◌, drop, length, get_or, map, arith, subst, append-nil}
use Rattle.std.proofs.lemmas.List.{drop_all, get_or-map, length-map}
use Rattle.std.proofs.lemmas.Str.{IsUtf8-string_bytes}
use Rattle.std.specs.Borrow.{Bor}
use Rattle.std.specs.List.{All, AllZip}
use Rattle.std.specs.Str.{IsUtf8}
use Rattle.std.specs.Prelude.{String, string_bytes}
use Rattle.std.specs.declared.alloc.Global.{Global}
use Rattle.complgen_c.specs.Listings.{handed}

-- if one is not UTF-8, not all are
pub not_all : (slices : List (Bor (List ℕ))) (i : ℕ) (d : Bor (List ℕ)) → i < length slices
    → (IsUtf8 (get_or slices i d).now → ⊥) → All IsUtf8 (handed slices) → ⊥
not_all slices i d below other all =
    other (subst IsUtf8 (get_or-map (λ (s : Bor (List ℕ)). s.now) slices i d d.now below)
    (all i d.now (omega (arith, length-map slices (λ (s : Bor (List ℕ)). s.now), below))))

-- texts are UTF-8
texts_utf8 : (texts : List (String Global)) → All IsUtf8 (map string_bytes texts)
texts_utf8 [] i d below = absurd (omega (arith, below))
texts_utf8 (text ∷ texts) zero d below = IsUtf8-string_bytes text
texts_utf8 (text ∷ texts) (suc i) d below = texts_utf8 texts i d (omega (arith, below))

-- so are slices of which the texts are copies, after the last one
pub all_copied : (texts : List (String Global)) (slices : List (Bor (List ℕ))) (i : ℕ) → length slices ≤ i
    → map string_bytes texts ++ handed (drop i slices) ≡ handed slices
    → (map string_bytes texts ≡ handed slices) × All IsUtf8 (handed slices)
all_copied texts slices i past whole =
    let same : map string_bytes texts ≡ handed slices =
    sym (append-nil (map string_bytes texts))
    ∙ ap (λ (rest : List (Bor (List ℕ))). map string_bytes texts ++ handed rest) (sym (drop_all i slices past))
    ∙ whole
    in
    (same, subst (λ (s : List (List ℕ)). All IsUtf8 s) same (texts_utf8 texts))

-- copies hold the same texts
pub same_texts : (texts copies : List (String Global))
    → AllZip (λ text copy. string_bytes copy ≡ string_bytes text) texts copies
    → map string_bytes copies ≡ map string_bytes texts
same_texts [] [] same = refl
same_texts [] (copy ∷ copies) same = absurd same
same_texts (text ∷ texts) [] same = absurd same
same_texts (text ∷ texts) (copy ∷ copies) same = rw (same.0, same_texts texts copies same.1) refl
