-- The labels that were seen before.
use Rattle.std.specs.Prelude.{ℕ, List, Bool, is_some}
use Rattle.std.specs.Ordering.{nat_cmp}
use Rattle.std.specs.Borrow.{Bor}
use Rattle.std.specs.BTreeMap.{BTreeMap, get_by}
use Rattle.std.specs.Cmp.Lexicographic.{slice_cmp}

-- whether the label is among those that a map holds
abbrev pub is_seen : BTreeMap (Bor (List ℕ)) (Unit {0}) → List ℕ → Bool
is_seen seen label = is_some (get_by (λ other. slice_cmp nat_cmp label other.now) seen)
