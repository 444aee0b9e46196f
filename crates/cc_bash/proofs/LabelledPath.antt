-- The nodes below a root in preorder. Each is labelled by the labels of the path to the node before
-- it.
use Rattle.std.proofs.Common.{◌≡◌, ℕ, suc, ◌-◌, List, [], ◌∷◌, ◌++◌, length, take, get_or, refl, ap, ◌∙◌, sym, append_assoc, append-nil, arith}
use Rattle.std.proofs.Math.Seq.{get_or-append_seam, take-append_seam}
use Rattle.std.proofs.lemmas.List.{length-append}
use Rattle.std.proofs.lemmas.Option.{unwrap_or-slice_get}
use Rattle.cc_command.specs.Tree.{Forest, none, more, Tree}
use Rattle.cc_generator.specs.Preorder.{Levelled, preorder}
use Rattle.cc_bash.specs.Labels.{Labelled, child_label, labelled_node, labelled_under}
use Rattle.cc_bash.specs.Nodes.{last_label, next_labelled, next_path}

-- nodes in preorder, each after a path to the node before it
abbrev pub labelled_along : List ℕ → List (List ℕ) → List Levelled → List Labelled
labelled_along root path [] = []
labelled_along root path (node ∷ nodes) =
    next_labelled root path node ∷ labelled_along root (next_path root path node) nodes

last_label-more : (root label : List ℕ) (path : List (List ℕ)) →
    last_label root (path ++ label ∷ []) ≡ label
last_label-more root label path =
    let last : length (path ++ label ∷ []) - 1 ≡ length path =
    omega (arith, length-append path (label ∷ [])) in
    unwrap_or-slice_get (path ++ label ∷ []) (length (path ++ label ∷ []) - 1) root
    ∙ ap (λ n. get_or (path ++ label ∷ []) n root) last ∙ get_or-append_seam path label [] root

module _ (root : List ℕ) where
  -- a path that begins with the labels of the nodes above some siblings
  siblings_along : (forest : Forest) (count : ℕ) (above more_labels : List (List ℕ))
      (rest : List Levelled) (after : List Labelled) → length above ≡ count →
      ((others : List (List ℕ)) → labelled_along root (above ++ others) rest ≡ after) →
      labelled_along root (above ++ more_labels) (preorder (suc (suc count)) forest ++ rest)
      ≡ labelled_under (last_label root above) (suc (suc count)) forest ++ after
  siblings_along none count above more_labels rest after long later = later more_labels
  siblings_along (more node below siblings) count above more_labels rest after long later =
      let level : ℕ = suc (suc count) in
      let tree : Tree = record { node = node; children = below } in
      let parent : List ℕ = last_label root above in
      let own : List ℕ = child_label parent node.name in
      let path : List (List ℕ) = above ++ own ∷ [] in
      let nodes_below : List Levelled = preorder (suc level) below in
      let left : List Levelled = preorder level siblings ++ rest in
      let labelled_left : List Labelled = labelled_under parent level siblings ++ after in
      let is_above : take (level - 2) (above ++ more_labels) ≡ above =
      (let same : level - 2 ≡ length above = omega (arith, long) in
      ap (λ n. take n (above ++ more_labels)) same ∙ take-append_seam above more_labels) in
      ap (λ labels. labelled_node (last_label root labels) level tree
      ∷ labelled_along root (labels ++ child_label (last_label root labels) node.name ∷ [])
      ((nodes_below ++ preorder level siblings) ++ rest)) is_above
      ∙ ap (λ t. labelled_node parent level tree ∷ t)
      (ap (labelled_along root path) (append_assoc nodes_below (preorder level siblings) rest)
      ∙ ap (λ labels. labelled_along root labels (nodes_below ++ left)) (sym (append-nil path))
      ∙ siblings_along below (suc count) path [] left labelled_left
      (omega (arith, length-append above (own ∷ []), long))
      (λ others. ap (λ labels. labelled_along root labels left)
      (append_assoc above (own ∷ []) others)
      ∙ siblings_along siblings count above (own ∷ others) rest after long later)
      ∙ ap (λ label. labelled_under label (suc level) below ++ labelled_left)
      (last_label-more root own above)
      ∙ sym (append_assoc (labelled_under own (suc level) below)
      (labelled_under parent level siblings) after))

-- all nodes, after an empty path
pub labelled_in_preorder : (root : List ℕ) (forest : Forest) →
    labelled_along root [] (preorder 2 forest) ≡ labelled_under root 2 forest
labelled_in_preorder root forest =
    ap (labelled_along root []) (sym (append-nil (preorder 2 forest)))
    ∙ siblings_along root forest 0 [] [] [] [] refl (λ others. refl)
    ∙ append-nil (labelled_under root 2 forest)
