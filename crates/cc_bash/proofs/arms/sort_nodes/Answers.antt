use Rattle.std.proofs.Common.{rules, ◌≡◌, List, map, ◌∙◌, ap}
use Rattle.std.proofs.lemmas.Fn.{always_returns_same}
use Rattle.std.proofs.lemmas.Result.{on_ok_weaker}
use Rattle.std.specs.Cmp.{IsStrictWeakOrder}
use Rattle.std.specs.Cmp.Lexicographic.{nat_list_cmp_total}
use Rattle.std.specs.List.Sorted.{IsSortedBy, IsStableBy}
use Rattle.std.proofs.lemmas.List.Sorted.{ranks_by}
use Rattle.cc_base.specs.Sorting.{in_order}
use Rattle.cc_base.proofs.Sorted.{sorted_is, map-in_order}
use Rattle.cc_bash.specs.Arms.{arm_below}
use Rattle.cc_bash.specs.Nodes.{labelled_of}
use Rattle.cc_bash.specs.declared.nodes.LabelledNode.{LabelledNode}
use Rattle.cc_bash.proofs.arms.sort_nodes.Goals as goal

-- nodes are ordered by the texts by which their arms are sorted
nodes_order : IsStrictWeakOrder (λ (x y : LabelledNode).
    arm_below (labelled_of x) (labelled_of y))
nodes_order = ranks_by nat_list_cmp_total (λ x. x.sort_text)

-- a stable sort returns the nodes in order
nodes_in_order : (xs ys : List LabelledNode) →
    IsSortedBy (λ x y. arm_below (labelled_of x) (labelled_of y)) ys →
    IsStableBy (λ x y. arm_below (labelled_of x) (labelled_of y)) xs ys →
    map labelled_of ys ≡ in_order arm_below (map labelled_of xs)
nodes_in_order xs ys sorted stable =
    ap (map labelled_of) (sorted_is (λ x y. arm_below (labelled_of x) (labelled_of y))
    nodes_order xs ys sorted stable)
    ∙ map-in_order labelled_of arm_below xs

pub returns : goal.returns
returns c =
    on_ok_weaker c.sort_by.result
    (λ h. nodes_in_order c.args.nodes.now.items c.sort_by.new.self.items
    (h (λ x y. arm_below (labelled_of x) (labelled_of y)) nodes_order
    (always_returns_same _ _ _ (λ a r f k. search rules)))
    (c.sort_by.ensures.stable (λ x y. arm_below (labelled_of x) (labelled_of y)) nodes_order
    (always_returns_same _ _ _ (λ a r f k. search rules))))
    c.sort_by.ensures.sorted
