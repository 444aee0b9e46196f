-- Siblings whose names differ: each name belongs to only one of them.
use Rattle.std.proofs.Common.{◌≡◌, ◌≢◌, ℕ, not, ◌&&◌, ◌||◌, IsTrue, List, [], ◌∷◌, ◌++◌, inl, inr, sym, subst}
use Rattle.std.specs.Str.{bytes_eq}
use Rattle.std.proofs.lemmas.Slice.Eq.{bytes_eq-Decides}
use Rattle.std.proofs.lemmas.Bool.{and_parts, or_left, or_right}
use Rattle.cc_base.specs.Differ.{AllDifferBy}
use Rattle.cc_base.proofs.Booleans.{not_both, each_passes}
use Rattle.cc_base.proofs.Members.{IsIn, IsIn-append_left, AllByRecursion-IsIn, AllByRecursion-from_IsIn}
use Rattle.cc_command.specs.declared.node.Node.{Node}
use Rattle.cc_command.specs.Tree.{Forest, none, more, Tree, IsSibling}
use Rattle.cc_command.specs.Names.{contains_name, has_name, has_child, visible_names}
use Rattle.cc_command.specs.Plain.{all_differ, names_of, siblings_differ}
use Rattle.cc_command.proofs.DifferentNames.{are_apart_from, siblings_differ-more}

-- equal texts have equal bytes
pub same_text : (text other : List ℕ) → text ≡ other → IsTrue (bytes_eq text other)
same_text text other e = (bytes_eq-Decides text other).1 e

-- a name in a list is found
pub contains_name-IsIn : (names : List (List ℕ)) (name : List ℕ) → IsIn names name → IsTrue (contains_name names name)
contains_name-IsIn [] name h = absurd h
contains_name-IsIn (other ∷ names) name (inl e) = or_left (bytes_eq other name) (contains_name names name) (same_text other name e)
contains_name-IsIn (other ∷ names) name (inr h) = or_right (bytes_eq other name) (contains_name names name) (contains_name-IsIn names name h)

-- a command has each of its visible names
pub has_name-visible : (node : Node) (name : List ℕ) → IsIn (visible_names node) name → IsTrue (has_name node name)
has_name-visible node name (inl e) =
    or_left (bytes_eq node.name name || contains_name node.visible_aliases name) (contains_name node.aliases name)
    (or_left (bytes_eq node.name name) (contains_name node.visible_aliases name) (same_text node.name name e))
has_name-visible node name (inr h) =
    or_left (bytes_eq node.name name || contains_name node.visible_aliases name) (contains_name node.aliases name)
    (or_right (bytes_eq node.name name) (contains_name node.visible_aliases name) (contains_name-IsIn node.visible_aliases name h))

-- names that differ from all others differ among themselves
pub AllDiffer-all_differ : (names others : List (List ℕ)) → IsTrue (all_differ (names ++ others)) → AllDifferBy (λ name. name) names
AllDiffer-all_differ [] others h = tt
AllDiffer-all_differ (name ∷ names) others h =
    let k = and_parts (not (contains_name (names ++ others) name)) (all_differ (names ++ others)) h in (
      AllByRecursion-from_IsIn (λ other. name ≢ other) names (λ other at e.
          not_both (contains_name (names ++ others) name)
          (contains_name-IsIn (names ++ others) name (IsIn-append_left names others name (subst (IsIn names) (sym e) at))) k.0),
      AllDiffer-all_differ names others k.1,
    )

-- for each visible name of some siblings, one of them has it
pub has_child-sibling : (forest : Forest) (child : Tree) (name : List ℕ) → IsSibling forest child → IsIn (visible_names child.node) name → IsTrue (has_child forest name)
has_child-sibling none child name sibling named = absurd sibling
has_child-sibling (more node below rest) child name (inl e) named =
    or_left (has_name node name) (has_child rest name) (has_name-visible node name (subst (λ tree. IsIn (visible_names tree.node) name) (sym e) named))
has_child-sibling (more node below rest) child name (inr sibling) named =
    or_right (has_name node name) (has_child rest name) (has_child-sibling rest child name sibling named)

-- a node shares no visible name with the siblings after it
pub not_shared : (node : Node) (rest : Forest) (child : Tree) (name : List ℕ) → IsTrue (are_apart_from rest (names_of node)) →
    IsIn (visible_names node) name → IsSibling rest child → IsIn (visible_names child.node) name → ⊥
not_shared node rest child name h of sibling named =
    not_both (has_child rest name) (has_child-sibling rest child name sibling named)
    (AllByRecursion-IsIn (λ name. IsTrue (not (has_child rest name))) (names_of node) name (each_passes (λ name. not (has_child rest name)) (names_of node) h)
    (IsIn-append_left (visible_names node) node.aliases name of))

-- if the names of siblings differ, those of the first one do, no later sibling has one of them, and
-- those of the later ones differ
pub record SiblingsDiffer (node : Node) (rest : Forest) : Type 0 where
  pub names : IsTrue (all_differ (names_of node))
  pub apart : IsTrue (are_apart_from rest (names_of node))
  pub later : IsTrue (siblings_differ rest)

pub first_differs : (node : Node) (below rest : Forest) → IsTrue (siblings_differ (more node below rest)) → SiblingsDiffer node rest
first_differs node below rest h =
    let whole = subst IsTrue (siblings_differ-more node below rest) h in
    let a = and_parts (all_differ (names_of node)) (are_apart_from rest (names_of node) && siblings_differ rest) whole in
    let b = and_parts (are_apart_from rest (names_of node)) (siblings_differ rest) a.1 in
    record { names = a.0; apart = b.0; later = b.1 }
