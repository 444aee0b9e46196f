-- The visits in table order are the visible paths, each with the nodes to which it leads, and each
-- once.
use Rattle.std.proofs.Common.{◌↔◌, ℕ, IsTrue, List, [], Contains, refl, ◌≡◌, ◌∷◌, ◌++◌, flat_map, ap, ◌∙◌, sym, subst, append_assoc, append-nil}
use Rattle.std.specs.Str.{bytes_eq}
use Rattle.std.specs.Cmp.Lexicographic.{pointwise}
use Rattle.std.proofs.lemmas.List.Sorted.{Contains-permutation, IsPermutation-sym, IsPermutation-refl, IsPermutation-trans, IsPermutation-cons, IsPermutation-append, IsPermutation-append_left, IsPermutation-append_right, IsPermutation-append_comm}
use Rattle.std.proofs.lemmas.Slice.Eq.{bytes_eq-Decides, slice_eq-Decides}
use Rattle.std.specs.List.Sorted.{IsPermutation}
use Rattle.std.proofs.lemmas.List.Concat.{flat_map_single}
use Rattle.cc_base.proofs.Differing.{AllDifferBy-permutation}
use Rattle.cc_command.specs.Plain.{is_plain_tree}
use Rattle.cc_command.specs.Tree.{Tree, Forest, none, more}
use Rattle.cc_command.specs.declared.node.Node.{Node}
use Rattle.cc_generator.specs.Paths.{IsVisiblePath, CoversPaths}
use Rattle.cc_generator.specs.Visits.{Keyed, longer_path, path_visits, table_visits, keyed, keys_below, paths_below, under_each, tables_below}
use Rattle.cc_generator.proofs.VisitedPaths.{paths_cover, visits_are_paths}

-- lists that are equal
same : {B : Type 0} → (xs ys : List B) → xs ≡ ys → IsPermutation xs ys
same xs ys e = subst (IsPermutation xs) e (IsPermutation-refl xs)

module _ {A B : Type 0} where
  -- each part in another order
  flat_map-each : (f g : A → List B) → ((x : A) → IsPermutation (f x) (g x)) → (xs : List A) → IsPermutation (flat_map f xs) (flat_map g xs)
  flat_map-each f g each [] = IsPermutation-refl []
  flat_map-each f g each (x ∷ xs) = IsPermutation-append (f x) (g x) (flat_map f xs) (flat_map g xs) (each x) (flat_map-each f g each xs)

  -- two parts of each element, or all first parts before all second parts
  flat_map-split : (f g : A → List B) → (xs : List A) → IsPermutation (flat_map (λ x. f x ++ g x) xs) (flat_map f xs ++ flat_map g xs)
  flat_map-split f g [] = IsPermutation-refl []
  flat_map-split f g (x ∷ xs) =
      let both : A → List B = λ x. f x ++ g x in
      let fs : List B = flat_map f xs in
      let gs : List B = flat_map g xs in
      IsPermutation-trans ((f x ++ g x) ++ flat_map both xs) ((f x ++ g x) ++ (fs ++ gs)) ((f x ++ fs) ++ (g x ++ gs))
      (IsPermutation-append_right (f x ++ g x) (flat_map both xs) (fs ++ gs) (flat_map-split f g xs))
      (IsPermutation-trans ((f x ++ g x) ++ (fs ++ gs)) (f x ++ ((fs ++ g x) ++ gs)) ((f x ++ fs) ++ (g x ++ gs))
      (subst (λ t. IsPermutation t (f x ++ ((fs ++ g x) ++ gs))) (ap (λ t. f x ++ t) (append_assoc (g x) fs gs) ∙ sym (append_assoc (f x) (g x) (fs ++ gs)))
      (IsPermutation-append_right (f x) ((g x ++ fs) ++ gs) ((fs ++ g x) ++ gs)
      (IsPermutation-append_left gs (g x ++ fs) (fs ++ g x) (IsPermutation-append_comm (g x) fs))))
      (same (f x ++ ((fs ++ g x) ++ gs)) ((f x ++ fs) ++ (g x ++ gs))
      (ap (λ t. f x ++ t) (append_assoc fs (g x) gs) ∙ sym (append_assoc (f x) fs (g x ++ gs)))))

module _ {Key : Type 0} (child_key : Key → List ℕ → Key) where
  IsPermutation-below : (forest : Forest) (above : Node) (keys : List Key) →
      IsPermutation (flat_map (λ key. paths_below child_key key above forest) keys) (tables_below child_key keys above forest)
  unfolding paths_below tables_below
  IsPermutation-below none above keys = same (flat_map (λ key. []) keys) [] (nothing keys)
    where
      nothing : (keys : List Key) → flat_map (λ (key : Key). let none : List (Keyed Key) = [] in none) keys ≡ []
      nothing [] = refl
      nothing (key ∷ keys) = nothing keys
  IsPermutation-below (more node below rest) above keys =
      let tree : Tree = record { node = node; children = below } in
      let one : Key → List (Keyed Key) = λ child. keyed child above tree ∷ paths_below child_key child node below in
      let alone : Key → List (Keyed Key) = λ child. keyed child above tree ∷ [] in
      let under : Key → List (Keyed Key) = λ child. paths_below child_key child node below in
      let later : Key → List (Keyed Key) = λ key. paths_below child_key key above rest in
      let paths : Key → List (Keyed Key) = λ key. flat_map one (keys_below child_key key node) in
      let tables : Key → List (Keyed Key) = λ key. under_each (keys_below child_key key node) above tree ++ tables_below child_key (keys_below child_key key node) node below in
      let each : (key : Key) → IsPermutation (paths key) (tables key) = λ key.
      IsPermutation-trans (paths key) (flat_map alone (keys_below child_key key node) ++ flat_map under (keys_below child_key key node)) (tables key)
      (flat_map-split alone under (keys_below child_key key node))
      (IsPermutation-append (flat_map alone (keys_below child_key key node)) (under_each (keys_below child_key key node) above tree)
      (flat_map under (keys_below child_key key node)) (tables_below child_key (keys_below child_key key node) node below)
      (same (flat_map alone (keys_below child_key key node)) (under_each (keys_below child_key key node) above tree) (flat_map_single (λ child. keyed child above tree) (keys_below child_key key node)))
      (IsPermutation-below below node (keys_below child_key key node))) in
      IsPermutation-trans (flat_map (λ key. paths key ++ later key) keys) (flat_map paths keys ++ flat_map later keys) (flat_map tables keys ++ tables_below child_key keys above rest)
      (flat_map-split paths later keys)
      (IsPermutation-append (flat_map paths keys) (flat_map tables keys) (flat_map later keys) (tables_below child_key keys above rest)
      (flat_map-each paths tables each keys) (IsPermutation-below rest above keys))

  -- the visits in path order are a permutation of those in table order
  pub IsPermutation-visits : (key : Key) (tree : Tree) → IsPermutation (path_visits child_key key tree) (table_visits child_key key tree)
  IsPermutation-visits key tree =
      let paths : List (Keyed Key) = paths_below child_key key tree.node tree.children in
      let tables : List (Keyed Key) = tables_below child_key (key ∷ []) tree.node tree.children in
      IsPermutation-cons (keyed key tree.node tree) paths tables
      (subst (λ t. IsPermutation t tables) (append-nil paths) (IsPermutation-below tree.children tree.node (key ∷ [])))

-- the visits in table order are exactly the visible paths, each with the nodes to which it leads
pub tables_are_paths : (tree : Tree) (visit : Keyed (List (List ℕ))) → Contains (table_visits longer_path [] tree) visit ↔ IsVisiblePath tree visit
tables_are_paths tree visit =
    let paths : List (Keyed (List (List ℕ))) = path_visits longer_path [] tree in
    let tables : List (Keyed (List (List ℕ))) = table_visits longer_path [] tree in
    let order = IsPermutation-visits longer_path [] tree in (
      λ h. (visits_are_paths tree visit).0 (Contains-permutation tables paths visit (IsPermutation-sym paths tables order) h),
      λ leads. Contains-permutation paths tables visit order ((visits_are_paths tree visit).1 leads),
    )

-- the visits of a plain tree in table order cover its paths
pub tables_cover : (tree : Tree) → IsTrue (is_plain_tree tree) → CoversPaths tree (table_visits longer_path [] tree)
tables_cover tree h = record {
  paths = tables_are_paths tree;
  once =
      AllDifferBy-permutation (λ (visit : Keyed (List (List ℕ))). visit.key) (pointwise bytes_eq)
      (λ x y. slice_eq-Decides bytes_eq-Decides x y (pointwise bytes_eq x y) refl)
      (path_visits longer_path [] tree) (table_visits longer_path [] tree) (IsPermutation-visits longer_path [] tree) (paths_cover tree h).once;
}
