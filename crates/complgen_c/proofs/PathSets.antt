-- A set of paths contains exactly the paths from which it was built.
use Rattle.std.proofs.Common.{◌≡◌, ◌∙◌, sym, refl, ℕ, List, [], ◌∷◌}
use Rattle.std.proofs.lemmas.Map.Text.{is_eq-slice_cmp}
use Rattle.std.specs.Borrow.{Bor}
use Rattle.std.specs.BTreeSet.{BTreeSet, IsFromIterResult, keys}
use Rattle.std.specs.Cmp.Lexicographic.{slice_cmp}
use Rattle.std.specs.List.{list_any}
use Rattle.std.specs.Ordering.{is_eq, nat_cmp}
use Rattle.complgen_c.specs.Listings.{handed, is_among}

-- paths that compare as equal are equal
pub found_by_order : (path : List ℕ) (paths : List (Bor (List ℕ)))
    → list_any (λ other. is_eq (slice_cmp nat_cmp path other.now)) paths
    ≡ is_among (handed paths) path
found_by_order path [] = refl
found_by_order path (other ∷ paths) =
    rw (is_eq-slice_cmp path other.now, found_by_order path paths) refl

pub same_paths : (paths : List (Bor (List ℕ))) (set : BTreeSet (Bor (List ℕ)))
    → IsFromIterResult (λ a b. slice_cmp nat_cmp a.now b.now) paths set
    → (path : List ℕ) → is_among (handed (keys set)) path ≡ is_among (handed paths) path
same_paths paths set made path =
    sym (found_by_order path (keys set))
    ∙ made.0 (record { ref_ptr = (0, 0); now = path }) ∙ found_by_order path paths
