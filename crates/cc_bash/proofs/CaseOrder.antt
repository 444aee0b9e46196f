-- The cases after sorting.
use Rattle.std.proofs.Common.{◌≡◌, List, map, ◌∙◌, ap}
use Rattle.std.specs.Cmp.{IsTotalOrder, IsStrictWeakOrder, on_total, then_total}
use Rattle.std.specs.Ordering.{nat_cmp, ordering_then}
use Rattle.std.specs.Cmp.Lexicographic.{slice_cmp, nat_list_cmp_total}
use Rattle.std.specs.List.Sorted.{IsSortedBy, IsStableBy}
use Rattle.std.proofs.lemmas.List.Sorted.{ranks_by}
use Rattle.cc_bash.specs.declared.cases.Case.{Case as CaseValue}
use Rattle.cc_bash.specs.CaseTable.{Case, case_below}
use Rattle.cc_bash.specs.Nodes.{case_of}
use Rattle.cc_base.specs.Sorting.{in_order}
use Rattle.cc_base.proofs.Sorted.{sorted_is, map-in_order}

total : IsTotalOrder (λ (one other : Case).
    ordering_then (slice_cmp nat_cmp one.from other.from)
    (ordering_then (slice_cmp nat_cmp one.word other.word) (slice_cmp nat_cmp one.to other.to)))
total = then_total (on_total (λ c. c.from) nat_list_cmp_total)
    (then_total (on_total (λ c. c.word) nat_list_cmp_total)
    (on_total (λ c. c.to) nat_list_cmp_total))

below_order : IsStrictWeakOrder (λ (x y : CaseValue). case_below (case_of x) (case_of y))
below_order = ranks_by total case_of

-- a stable sort returns the cases in order
pub cases_in_order : (xs ys : List CaseValue) →
    IsSortedBy (λ x y. case_below (case_of x) (case_of y)) ys →
    IsStableBy (λ x y. case_below (case_of x) (case_of y)) xs ys
    → map case_of ys ≡ in_order case_below (map case_of xs)
cases_in_order xs ys sorted stable =
    ap (map case_of) (sorted_is (λ x y. case_below (case_of x) (case_of y))
    below_order xs ys sorted stable) ∙ map-in_order case_of case_below xs
