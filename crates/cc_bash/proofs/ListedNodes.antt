-- The parents and the children of a tree's labelled nodes.
use Rattle.std.proofs.Common.{◌≡◌, ◌⊎◌, ℕ, suc, IsTrue, List, inl, inr, refl, ap, subst}
use Rattle.cc_base.proofs.Members.{IsIn, IsIn-append_left, IsIn-append_right, IsIn-append}
use Rattle.cc_command.specs.Plain.{is_plain_forest, siblings_differ}
use Rattle.cc_command.specs.Tree.{Forest, none, more, Tree, IsSibling}
use Rattle.cc_command.proofs.PlainParts.{plain_more}
use Rattle.cc_bash.specs.Labels.{Labelled, child_label, labelled_node, labelled_under}

-- a node below the root is a child of a node with its parent's label, which is in the list or above
-- it
pub record HasParent (label : List ℕ) (forest : Forest) (nodes : List Labelled) (node : Labelled)
    : Type 0 where
  pub own : node.label ≡ child_label node.parent node.tree.node.name
  pub parent : ((label ≡ node.parent) × IsSibling forest node.tree)
      ⊎ ((p : Labelled) × IsIn nodes p × (p.label ≡ node.parent)
      × IsSibling p.tree.children node.tree)

pub parents : (label : List ℕ) (level : ℕ) (forest : Forest) (node : Labelled) →
    IsIn (labelled_under label level forest) node →
    HasParent label forest (labelled_under label level forest) node
parents label level none node h = absurd h
parents label level (more n below rest) node (inl e) =
    subst (HasParent label (more n below rest) (labelled_under label level (more n below rest))) e
    (record { own = refl; parent = inl (refl, inl refl) })
parents label level (more n below rest) node (inr h) =
    let own = child_label label n.name in
    let later = labelled_under label level rest in
    elim (IsIn-append (labelled_under own (suc level) below) later node h) [
      | inl p ↦ let k = parents own (suc level) below node p in record {
        own = k.own;
        parent = elim k.parent [
          | inl first ↦ inr (
            labelled_node label level (record { node = n; children = below }),
            inl refl,
            first.0,
            first.1,
          )
          | inr deeper ↦ inr (
            deeper.0,
            inr
                (IsIn-append_left (labelled_under own (suc level) below)
                later deeper.0 deeper.1),
            deeper.2,
            deeper.3,
          )
        ];
      }
      | inr q ↦ let k = parents label level rest node q in record {
        own = k.own;
        parent = elim k.parent [
          | inl first ↦ inl (first.0, inr first.1)
          | inr deeper ↦ inr (
            deeper.0,
            inr
                (IsIn-append_right (labelled_under own (suc level) below)
                later deeper.0 deeper.1),
            deeper.2,
            deeper.3,
          )
        ];
      }
    ]

-- each of the siblings is in the list
pub siblings_listed : (label : List ℕ) (level : ℕ) (forest : Forest) (child : Tree) →
    IsSibling forest child → IsIn (labelled_under label level forest)
    (labelled_node label level child)
siblings_listed label level none child h = absurd h
siblings_listed label level (more n below rest) child (inl e) =
    inl (ap (labelled_node label level) e)
siblings_listed label level (more n below rest) child (inr h) =
    inr (IsIn-append_right (labelled_under (child_label label n.name) (suc level) below)
    (labelled_under label level rest) _ (siblings_listed label level rest child h))

-- each child of a node of the list is in the list
pub children_listed : (label : List ℕ) (level : ℕ) (forest : Forest) (node : Labelled)
    (child : Tree) → IsIn (labelled_under label level forest) node →
    IsSibling node.tree.children child →
    IsIn (labelled_under label level forest) (labelled_node node.label (suc node.level) child)
children_listed label level none node child h = absurd h
children_listed label level (more n below rest) node child (inl e) =
    let whole = labelled_under label level (more n below rest) in
    subst (λ (p : Labelled). IsSibling p.tree.children child →
    IsIn whole (labelled_node p.label (suc p.level) child)) e
    (λ s. inr (IsIn-append_left (labelled_under (child_label label n.name) (suc level) below)
    (labelled_under label level rest) _
    (siblings_listed (child_label label n.name) (suc level) below child s)))
children_listed label level (more n below rest) node child (inr h) = λ s.
    let own = child_label label n.name in
    elim (IsIn-append (labelled_under own (suc level) below) (labelled_under label level rest)
    node h) [
      | inl p ↦ inr (IsIn-append_left (labelled_under own (suc level) below)
          (labelled_under label level rest) _
          (children_listed own (suc level) below node child p s))
      | inr q ↦ inr (IsIn-append_right (labelled_under own (suc level) below)
          (labelled_under label level rest) _ (children_listed label level rest node child q s))
    ]

-- the children of a plain forest's nodes differ
pub children_differ : (label : List ℕ) (level : ℕ) (forest : Forest) (node : Labelled) →
    IsTrue (is_plain_forest forest) → IsIn (labelled_under label level forest) node →
    IsTrue (siblings_differ node.tree.children)
children_differ label level none node plain h = absurd h
children_differ label level (more n below rest) node plain h =
    let parts = plain_more n below rest plain in
    elim h [
      | inl e ↦ subst (λ (m : Labelled). IsTrue (siblings_differ m.tree.children))
          e parts.first.differ
      | inr others ↦ elim (IsIn-append (labelled_under (child_label label n.name) (suc level) below)
          (labelled_under label level rest) node others) [
            | inl deeper ↦ children_differ (child_label label n.name) (suc level)
                below node parts.first.children deeper
            | inr later ↦ children_differ label level rest node parts.later later
          ]
    ]
