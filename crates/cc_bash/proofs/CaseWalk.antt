-- For any words, the case table of a tree leads along the labels of the walk by visible names.
use Rattle.std.proofs.Common.{◌≡◌, ℕ, suc, IsTrue, List, [], ◌∷◌, ◌++◌, length, map, flat_map, Some, None, inl, inr, refl, sym, ap, ◌∙◌, subst, ◌⊎◌, true, false}
use Rattle.std.specs.Str.{bytes_eq}
use Rattle.std.proofs.lemmas.Bool.{cases_Bool}
use Rattle.std.proofs.lemmas.Bool.Decides.{not_from_Decides}
use Rattle.std.proofs.lemmas.Slice.Eq.{bytes_eq-Decides}
use Rattle.cc_base.specs.Sorting.{in_order}
use Rattle.cc_base.proofs.Cases.{option_cases}
use Rattle.cc_base.proofs.Members.{IsIn, IsIn-map, map-IsIn, IsIn-flat_map, flat_map-IsIn}
use Rattle.cc_base.proofs.Sorted.{IsIn-in_order, in_order-IsIn}
use Rattle.cc_command.specs.Names.{visible_names, visible_child, contains_name}
use Rattle.cc_command.specs.Plain.{is_plain_tree, siblings_differ}
use Rattle.cc_command.specs.Tree.{Tree, IsSibling, Forest, none, more}
use Rattle.cc_command.proofs.PlainParts.{plain_tree}
use Rattle.cc_command.proofs.SiblingNames.{contains_name-IsIn, first_differs, not_shared}
use Rattle.cc_bash.specs.Arms.{arm_of, arm_below, node_arm, tree_arms}
use Rattle.cc_bash.specs.CaseTable.{Case, node_cases, case_below, tree_cases, next_label, run, last_or, run_end}
use Rattle.cc_bash.specs.Labels.{Labelled, root_label, child_label, labelled_node, labelled_commands, labels, shared_label}
use Rattle.cc_bash.specs.Reads.{arm_at, path_node_arm, path_node_label}
use Rattle.cc_bash.specs.Walk.{PathNode, next_path_node, path_nodes, walk, root_path_node, label_at, level_of}
use Rattle.cc_bash.proofs.Clashes.{AllDifferBy-map, same_element, texts_differ}
use Rattle.cc_bash.proofs.ListedNodes.{parents, siblings_listed, children_listed, children_differ}

-- two texts are equal or differ
pub bytes_tells : (a b : List ℕ) → ((bytes_eq a b ≡ true) × (a ≡ b))
    ⊎ ((bytes_eq a b ≡ false) × (a ≡ b → ⊥))
bytes_tells a b = elim (cases_Bool (bytes_eq a b)) [
  | inl t ↦ inl (t, (bytes_eq-Decides a b).0 t)
  | inr f ↦ inr (f, not_from_Decides (bytes_eq a b) (bytes_eq-Decides a b) f)
]

-- a name that is found is in the list
IsIn-contains_name : (names : List (List ℕ)) (name : List ℕ) → contains_name names name ≡ true →
    IsIn names name
IsIn-contains_name [] name h = cc
IsIn-contains_name (n ∷ names) name h = elim (bytes_tells n name) [
  | inl t ↦ inl t.1
  | inr f ↦ inr (IsIn-contains_name names name (rw f.0 at h))
]

-- ---- the walk

-- a child is found by each of its visible names, if siblings differ
pub visible_child-is : (forest : Forest) (child : Tree) (name : List ℕ) →
    IsTrue (siblings_differ forest) → IsSibling forest child →
    IsIn (visible_names child.node) name →
    visible_child forest name ≡ Some child
visible_child-is none child name differ sibling named = absurd sibling
visible_child-is (more node below rest) child name differ (inl e) named =
    let yes : contains_name (visible_names node) name
    ≡ true = contains_name-IsIn (visible_names node) name
    (subst (λ tree. IsIn (visible_names tree.node) name) (sym e) named) in
    rw yes (ap (λ tree. Some tree) e)
visible_child-is (more node below rest) child name differ (inr sibling) named =
    let parts = first_differs node below rest differ in
    elim (cases_Bool (contains_name (visible_names node) name)) [
      | inl is_one ↦ absurd (not_shared node rest child name parts.apart
          (IsIn-contains_name (visible_names node) name is_one) sibling named)
      | inr is_none ↦ rw is_none (visible_child-is rest child name parts.later sibling named)
    ]

-- the child that is found shows the name
pub visible_child-of : (forest : Forest) (child : Tree) (name : List ℕ) →
    visible_child forest name ≡ Some child →
    IsSibling forest child × IsIn (visible_names child.node) name
visible_child-of none child name e = cc
visible_child-of (more node below rest) child name e =
    elim (cases_Bool (contains_name (visible_names node) name)) [
      | inl is_one ↦
          let found : Some (record { node = node; children = below }) ≡ Some child = rw is_one at e in
          let is : record { node = node; children = below } ≡ child = cc in (
            inl is,
            subst (λ tree. IsIn (visible_names tree.node) name) is
                (IsIn-contains_name (visible_names node) name is_one),
          )
      | inr is_none ↦ let k = visible_child-of rest child name (rw is_none at e) in (inr k.0, k.1)
    ]

-- ---- the case table

-- a case fits and gives the next label, or no case fits and the label stays
abbrev pub Next : List Case → List ℕ → List ℕ → Type 0
Next cases label word =
    ((c : Case) × IsIn cases c × (c.from ≡ label) × (c.word ≡ word)
    × (next_label cases label word ≡ c.to))
    ⊎ ((next_label cases label word ≡ label)
    × ((c : Case) → IsIn cases c → c.from ≡ label → c.word ≡ word → ⊥))

passed : (c : Case) (cases : List Case) (label word : List ℕ) →
    next_label (c ∷ cases) label word ≡ next_label cases label word →
    (c.from ≡ label → c.word ≡ word → ⊥) → Next cases label word → Next (c ∷ cases) label word
passed c cases label word same no_fit n = elim n [
  | inl h ↦ inl (h.0, inr h.1, h.2, h.3, same ∙ h.4)
  | inr h ↦ inr (
    same ∙ h.0,
    λ d is from_is word_is. elim is [
      | inl e ↦ no_fit (ap (λ x. x.from) e ∙ from_is) (ap (λ x. x.word) e ∙ word_is)
      | inr later ↦ h.1 d later from_is word_is
    ],
  )
]

pub next_cases : (cases : List Case) (label word : List ℕ) → Next cases label word
next_cases [] label word = inr (refl, λ c h. absurd h)
next_cases (c ∷ cases) label word = elim (bytes_tells c.from label) [
  | inl f ↦ elim (bytes_tells c.word word) [
    | inl w ↦ inl (c, inl refl, f.1, w.1, rw (f.0, w.0))
    | inr w ↦ passed c cases label word (rw (f.0, w.0)) (λ a b. w.1 b)
        (next_cases cases label word)
  ]
  | inr f ↦ passed c cases label word (rw f.0) (λ a b. f.1 a) (next_cases cases label word)
]

-- one more name
pub label_at-more : (root : List ℕ) (path : List (List ℕ)) (name : List ℕ) →
    label_at root (path ++ name ∷ []) ≡ child_label (label_at root path) name
label_at-more root [] name = refl
label_at-more root (n ∷ path) name = label_at-more (child_label root n) path name

-- the root as a node of the list
abbrev root_node : Tree → Labelled
root_node tree = record {
  parent = [];
  label = root_label tree;
  sort_text = [];
  level = 1;
  tree =
      tree;
}

abbrev nodes : Tree → List Labelled
nodes tree = root_node tree ∷ labelled_commands tree

-- if no label occurs twice, two nodes with the same label are equal
one_node : (tree : Tree) (one other : Labelled) → shared_label tree ≡ None → IsIn (nodes tree) one →
    IsIn (nodes tree) other → one.label ≡ other.label → one ≡ other
one_node tree one other clear h k e =
    same_element (λ (n : Labelled). n.label) (nodes tree) one other
    (AllDifferBy-map (λ (n : Labelled). n.label) (nodes tree) (texts_differ [] (labels tree) clear))
    h k e

-- every node below the root has its parent in the list
parent_of : (tree : Tree) (node : Labelled) → IsIn (labelled_commands tree) node →
    (p : Labelled) × IsIn (nodes tree) p × (p.label ≡ node.parent)
    × IsSibling p.tree.children node.tree
parent_of tree node h = elim (parents (root_label tree) 2 tree.children node h).parent [
  | inl first ↦ (root_node tree, inl refl, first.0, first.1)
  | inr deeper ↦ (deeper.0, inr deeper.1, deeper.2, deeper.3)
]

-- every child of a node of the list is in the list
child_of : (tree : Tree) (node : Labelled) (child : Tree) → IsIn (nodes tree) node →
    IsSibling node.tree.children child →
    IsIn (labelled_commands tree) (labelled_node node.label (suc node.level) child)
child_of tree node child (inl e) s =
    subst (λ (p : Labelled). IsSibling p.tree.children child →
    IsIn (labelled_commands tree) (labelled_node p.label (suc p.level) child)) e
    (λ t. siblings_listed (root_label tree) 2 tree.children child t) s
child_of tree node child (inr h) s =
    children_listed (root_label tree) 2 tree.children node child h s

-- the children of each node differ
differ_at : (tree : Tree) (node : Labelled) → IsTrue (is_plain_tree tree) → IsIn (nodes tree) node →
    IsTrue (siblings_differ node.tree.children)
differ_at tree node plain h =
    let parts = plain_tree tree plain in
    elim h [
      | inl e ↦ subst (λ (p : Labelled). IsTrue (siblings_differ p.tree.children))
          e parts.below.differ
      | inr k ↦ children_differ (root_label tree) 2 tree.children node parts.below.children k
    ]

-- a case comes from a node, and a node's cases are in the table
case_from : (tree : Tree) (c : Case) → IsIn (tree_cases tree) c →
    (node : Labelled) × IsIn (labelled_commands tree) node × IsIn (visible_names node.tree.node) c.word
    × (c.from ≡ node.parent) × (c.to ≡ node.label)
unfolding tree_cases
case_from tree c h =
    let of = IsIn-flat_map node_cases (labelled_commands tree) c
    (IsIn-in_order case_below (flat_map node_cases (labelled_commands tree)) c h) in
    let make = λ (name : List ℕ). let c : Case =
    record { from = of.0.parent; word = name; to = of.0.label } in c in
    let by = IsIn-map make (visible_names of.0.tree.node) c of.1.1 in (
      of.0,
      of.1.0,
      subst (λ w. IsIn (visible_names of.0.tree.node) w) (ap (λ x. x.word) by.1.1)
          by.1.0,
      sym (ap (λ x. x.from) by.1.1),
      sym (ap (λ x. x.to) by.1.1),
    )

case_of_node : (tree : Tree) (node : Labelled) (name : List ℕ) → IsIn (labelled_commands tree) node →
    IsIn (visible_names node.tree.node) name →
    IsIn (tree_cases tree) (record { from = node.parent; word = name; to = node.label })
unfolding tree_cases
case_of_node tree node name h named =
    let make = λ (name : List ℕ). let c : Case =
    record { from = node.parent; word = name; to = node.label } in c in
    in_order-IsIn case_below (flat_map node_cases (labelled_commands tree)) _
    (flat_map-IsIn node_cases (labelled_commands tree) node _ h
    (map-IsIn make (visible_names node.tree.node) name named))

found_child : (here : PathNode) (word : List ℕ) (child : Tree) →
    visible_child here.tree.children word ≡ Some child →
    next_path_node here word ≡ record { path = here.path ++ child.node.name ∷ []; tree = child }
found_child here word child e = rw (next_path_node, e)

found_none : (here : PathNode) (word : List ℕ) → visible_child here.tree.children word ≡ None →
    next_path_node here word ≡ here
found_none here word e = rw (next_path_node, e)

pub length-more : (path : List (List ℕ)) (name : List ℕ) →
    suc (length path) ≡ length (path ++ name ∷ [])
length-more [] name = refl
length-more (n ∷ path) name = ap (λ k. suc k) (length-more path name)

-- a node of the list is the given node
record StandsAt (tree : Tree) (here : PathNode) : Type 0 where
  pub node : Labelled
  pub listed : IsIn (nodes tree) node
  pub same : node.tree ≡ here.tree
  pub label : node.label ≡ path_node_label tree here
  pub level : node.level ≡ level_of here

root_stands : (tree : Tree) → StandsAt tree (root_path_node tree)
root_stands tree = record {
  node = root_node tree;
  listed = inl refl;
  same = refl;
  label =
      refl;
  level = refl;
}

-- below a node of the list, its child is in the list
child_stands : (tree : Tree) (here : PathNode) (child : Tree) → StandsAt tree here →
    IsSibling here.tree.children child →
    StandsAt tree (record { path = here.path ++ child.node.name ∷ []; tree = child })
child_stands tree here child at s =
    let sibling : IsSibling at.node.tree.children child =
    subst (λ (t : Tree). IsSibling t.children child) (sym at.same) s in
    record {
      node = labelled_node at.node.label (suc at.node.level) child;
      listed = inr (child_of tree at.node child at.listed sibling);
      same = refl;
      label = ap (λ l. child_label l child.node.name) at.label
          ∙ sym (label_at-more (root_label tree) here.path child.node.name);
      level = ap (λ k. suc k) (at.level ∙ length-more here.path child.node.name);
    }

-- the node to which a word leads is in the list
next_stands : (tree : Tree) (here : PathNode) (word : List ℕ) → StandsAt tree here →
    StandsAt tree (next_path_node here word)
next_stands tree here word at = elim (option_cases (visible_child here.tree.children word)) [
  | inl f ↦ subst (StandsAt tree) (sym (found_child here word f.0 f.1))
      (child_stands tree here f.0 at (visible_child-of here.tree.children f.0 word f.1).0)
  | inr absent ↦ subst (StandsAt tree) (sym (found_none here word absent)) at
]

stands_after : (tree : Tree) (words : List (List ℕ)) (here : PathNode) → StandsAt tree here →
    StandsAt tree (walk here words)
stands_after tree [] here at = at
stands_after tree (word ∷ words) here at =
    stands_after tree words (next_path_node here word) (next_stands tree here word at)

-- for one word, the table leads from the label of a node to the label of the next
step : (tree : Tree) → IsTrue (is_plain_tree tree) → shared_label tree ≡ None →
    (here : PathNode) (word : List ℕ) → StandsAt tree here →
    next_label (tree_cases tree) (path_node_label tree here) word
    ≡ path_node_label tree (next_path_node here word)
step tree plain clear here word at =
    elim (next_cases (tree_cases tree) (path_node_label tree here) word) [
      | inl h ↦
          let from = case_from tree h.0 h.1 in
          let up = parent_of tree from.0 from.1 in
          let is_parent : up.0 ≡ at.node = one_node tree up.0 at.node clear up.1 at.listed
          (up.2 ∙ sym from.3 ∙ h.2 ∙ sym at.label) in
          let sibling : IsSibling here.tree.children from.0.tree =
          subst (λ (t : Tree). IsSibling t.children from.0.tree)
          (ap (λ n. n.tree) is_parent ∙ at.same) up.3 in
          let differ : IsTrue (siblings_differ here.tree.children) =
          subst (λ (t : Tree). IsTrue (siblings_differ t.children)) at.same
          (differ_at tree at.node plain at.listed) in
          let found : visible_child here.tree.children word ≡ Some from.0.tree =
          visible_child-is here.tree.children from.0.tree word differ sibling
          (subst (IsIn (visible_names from.0.tree.node)) h.3 from.2) in
          let own : from.0.label ≡ child_label from.0.parent from.0.tree.node.name =
          (parents (root_label tree) 2 tree.children from.0 from.1).own in
          let name = from.0.tree.node.name in
          h.4 ∙ from.4 ∙ own ∙ ap (λ l. child_label l name) (sym from.3 ∙ h.2)
          ∙ sym (label_at-more (root_label tree) here.path name)
          ∙ ap (path_node_label tree) (sym (found_child here word from.0.tree found))
      | inr h ↦ elim (option_cases (visible_child here.tree.children word)) [
        | inl f ↦
            let of = visible_child-of here.tree.children f.0 word f.1 in
            let sibling : IsSibling at.node.tree.children f.0 =
            subst (λ (t : Tree). IsSibling t.children f.0) (sym at.same) of.0 in
            absurd (h.1 _ (case_of_node tree (labelled_node at.node.label (suc at.node.level) f.0)
            word (child_of tree at.node f.0 at.listed sibling) of.1) at.label refl)
        | inr absent ↦ h.0 ∙ ap (path_node_label tree) (sym (found_none here word absent))
      ]
    ]

-- the same for any words
run_from : (tree : Tree) → IsTrue (is_plain_tree tree) → shared_label tree ≡ None →
    (words : List (List ℕ)) (here : PathNode) → StandsAt tree here →
    run (tree_cases tree) (path_node_label tree here) words
    ≡ map (path_node_label tree) (path_nodes here words)
run_from tree plain clear [] here at = refl
run_from tree plain clear (word ∷ words) here at =
    ap (λ l. path_node_label tree here ∷ run (tree_cases tree) l words)
    (step tree plain clear here word at)
    ∙ ap (λ ls. path_node_label tree here ∷ ls)
    (run_from tree plain clear words (next_path_node here word) (next_stands tree here word at))

pub table_walks : (tree : Tree) → IsTrue (is_plain_tree tree) → shared_label tree ≡ None →
    (words : List (List ℕ)) →
    run (tree_cases tree) (root_label tree) words
    ≡ map (path_node_label tree) (path_nodes (root_path_node tree) words)
table_walks tree plain clear words =
    run_from tree plain clear words (root_path_node tree) (root_stands tree)

-- the last of the nodes is the last node of the walk
last_path_node : (tree : Tree) (text : List ℕ) (here : PathNode) (words : List (List ℕ)) →
    last_or text (map (path_node_label tree) (path_nodes here words))
    ≡ path_node_label tree (walk here words)
last_path_node tree text here [] = refl
last_path_node tree text here (word ∷ words) =
    last_path_node tree (path_node_label tree here) (next_path_node here word) words

pub table_ends : (tree : Tree) → IsTrue (is_plain_tree tree) → shared_label tree ≡ None →
    (words : List (List ℕ)) →
    run_end (tree_cases tree) (root_label tree) words
    ≡ path_node_label tree (walk (root_path_node tree) words)
table_ends tree plain clear words =
    ap (last_or (root_label tree)) (table_walks tree plain clear words)
    ∙ last_path_node tree (root_label tree) (root_path_node tree) words

-- ---- the arm where the walk ends

-- the arm of a node is found, if no other node has its label
arm_found : (xs : List Labelled) (node : Labelled) →
    ((one : Labelled) → IsIn xs one → one.label ≡ node.label → one ≡ node) → IsIn xs node →
    arm_at (map node_arm xs) node.label ≡ Some (node_arm node)
arm_found [] node alone h = absurd h
arm_found (x ∷ xs) node alone h = elim (bytes_tells x.label node.label) [
  | inl t ↦ let is : x ≡ node = alone x (inl refl) t.1 in rw t.0 (ap (λ n. Some (node_arm n)) is)
  | inr f ↦ rw f.0 (elim h [
    | inl e ↦ absurd (f.1 (ap (λ n. n.label) e))
    | inr k ↦ arm_found xs node (λ one at. alone one (inr at)) k
  ])
]

-- a node of the list is in the order of the arms: the root first, then the others
in_arms : (tree : Tree) (node : Labelled) → IsIn (nodes tree) node →
    IsIn (root_node tree ∷ in_order arm_below (labelled_commands tree)) node
in_arms tree node (inl e) = inl e
in_arms tree node (inr h) = inr (in_order-IsIn arm_below (labelled_commands tree) node h)

from_arms : (tree : Tree) (node : Labelled) →
    IsIn (root_node tree ∷ in_order arm_below (labelled_commands tree)) node → IsIn (nodes tree) node
from_arms tree node (inl e) = inl e
from_arms tree node (inr h) = inr (IsIn-in_order arm_below (labelled_commands tree) node h)

arm_of_node : (tree : Tree) (node : Labelled) → shared_label tree ≡ None → IsIn (nodes tree) node →
    arm_at (tree_arms tree) node.label ≡ Some (node_arm node)
unfolding tree_arms
arm_of_node tree node clear h =
    arm_found (root_node tree ∷ in_order arm_below (labelled_commands tree)) node
    (λ one at e. one_node tree one node clear (from_arms tree one at) h e) (in_arms tree node h)

-- the arm at the label to which words lead is the arm of the node
pub arm_stands : (tree : Tree) → shared_label tree ≡ None → (words : List (List ℕ)) →
    arm_at (tree_arms tree) (path_node_label tree (walk (root_path_node tree) words))
    ≡ Some (path_node_arm tree (walk (root_path_node tree) words))
arm_stands tree clear words =
    let end : PathNode = walk (root_path_node tree) words in
    let at : StandsAt tree end = stands_after tree words (root_path_node tree) (root_stands tree) in
    ap (arm_at (tree_arms tree)) (sym at.label) ∙ arm_of_node tree at.node clear at.listed
    ∙ ap (λ l. Some (arm_of l at.node.level at.node.tree)) at.label
    ∙ ap (λ k. Some (arm_of (path_node_label tree end) k at.node.tree)) at.level
    ∙ ap (λ t. Some (arm_of (path_node_label tree end) (level_of end) t)) at.same

-- the same for the label to which the table's own cases lead
pub arm_at_end : (tree : Tree) → IsTrue (is_plain_tree tree) → shared_label tree ≡ None →
    (words : List (List ℕ)) →
    arm_at (tree_arms tree) (run_end (tree_cases tree) (root_label tree) words)
    ≡ Some (path_node_arm tree (walk (root_path_node tree) words))
arm_at_end tree plain clear words =
    ap (arm_at (tree_arms tree)) (table_ends tree plain clear words) ∙ arm_stands tree clear words
