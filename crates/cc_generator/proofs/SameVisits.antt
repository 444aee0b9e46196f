-- Visits under keys of one kind are the visits under keys of another kind, if each step of a key of
-- one kind is a step of the other.
use Rattle.std.proofs.Common.{◌≡◌, ℕ, List, [], ◌∷◌, ◌++◌, map, flat_map, refl, ap, ◌∙◌, sym, append_assoc, append-nil}
use Rattle.std.proofs.lemmas.List.{map-append}
use Rattle.std.proofs.lemmas.List.Concat.{flat_map-append}
use Rattle.cc_command.specs.declared.node.Node.{Node}
use Rattle.cc_command.specs.Tree.{Forest, none, more, Tree}
use Rattle.cc_command.specs.Names.{visible_names}
use Rattle.cc_generator.specs.Visits.{keyed, keys_below, paths_below, path_visits, under_each, tables_below, table_visits, rekeyed, longer_path, joined, joined_path}

-- a map over a `flat_map`
map-flat_map : {A B C D : Type 0} (f : A → B) (h : C → D) (g : A → List C) (k : B → List D) → ((x : A) → map h (g x) ≡ k (f x)) →
    (xs : List A) → map h (flat_map g xs) ≡ flat_map k (map f xs)
map-flat_map f h g k each [] = refl
map-flat_map f h g k each (x ∷ xs) =
    map-append h (g x) (flat_map g xs) ∙ ap (λ t. t ++ map h (flat_map g xs)) (each x) ∙ ap (λ t. k (f x) ++ t) (map-flat_map f h g k each xs)

module _ {A B : Type 0} (child_key : A → List ℕ → A) (other : B → List ℕ → B) (f : A → B) (step : (key : A) (name : List ℕ) → f (child_key key name) ≡ other (f key) name) where
  keys-longer : (key : A) (names : List (List ℕ)) → map f (map (child_key key) names) ≡ map (other (f key)) names
  keys-longer key [] = refl
  keys-longer key (name ∷ names) = ap (λ k. k ∷ map f (map (child_key key) names)) (step key name) ∙ ap (λ ks. other (f key) name ∷ ks) (keys-longer key names)

  rekeyed-paths_below : (forest : Forest) (above : Node) (key : A) → map (rekeyed f) (paths_below child_key key above forest) ≡ paths_below other (f key) above forest
  unfolding paths_below
  rekeyed-paths_below none above key = refl
  rekeyed-paths_below (more node below rest) above key =
      let tree : Tree = record { node = node; children = below } in
      let one = λ (child : A). keyed child above tree ∷ paths_below child_key child node below in
      let other_one = λ (child : B). keyed child above tree ∷ paths_below other child node below in
      map-append (rekeyed f) (flat_map one (keys_below child_key key node)) (paths_below child_key key above rest) ∙
      ap (λ t. t ++ map (rekeyed f) (paths_below child_key key above rest))
      (map-flat_map f (rekeyed f) one other_one (λ child. ap (λ t. keyed (f child) above tree ∷ t) (rekeyed-paths_below below node child)) (keys_below child_key key node) ∙
      ap (flat_map other_one) (keys-longer key (visible_names node))) ∙
      ap (λ t. flat_map other_one (keys_below other (f key) node) ++ t) (rekeyed-paths_below rest above key)

  -- in path order
  pub rekeyed-path_visits : (key : A) (tree : Tree) → map (rekeyed f) (path_visits child_key key tree) ≡ path_visits other (f key) tree
  rekeyed-path_visits key tree = ap (λ t. keyed (f key) tree.node tree ∷ t) (rekeyed-paths_below tree.children tree.node key)

  rekeyed-under_each : (keys : List A) (above : Node) (tree : Tree) → map (rekeyed f) (under_each keys above tree) ≡ under_each (map f keys) above tree
  rekeyed-under_each [] above tree = refl
  rekeyed-under_each (key ∷ keys) above tree = ap (λ t. keyed (f key) above tree ∷ t) (rekeyed-under_each keys above tree)

  rekeyed-tables_below : (forest : Forest) (above : Node) (keys : List A) → map (rekeyed f) (tables_below child_key keys above forest) ≡ tables_below other (map f keys) above forest
  unfolding tables_below
  rekeyed-tables_below none above keys = refl
  rekeyed-tables_below (more node below rest) above keys =
      let tree : Tree = record { node = node; children = below } in
      let one = λ (key : A). under_each (keys_below child_key key node) above tree ++ tables_below child_key (keys_below child_key key node) node below in
      let other_of = λ (keys : List B). under_each keys above tree ++ tables_below other keys node below in
      map-append (rekeyed f) (flat_map one keys) (tables_below child_key keys above rest) ∙
      ap (λ t. t ++ map (rekeyed f) (tables_below child_key keys above rest))
      (map-flat_map f (rekeyed f) one (λ key. other_of (keys_below other key node))
      (λ key. map-append (rekeyed f) (under_each (keys_below child_key key node) above tree) (tables_below child_key (keys_below child_key key node) node below) ∙
      ap (λ t. t ++ map (rekeyed f) (tables_below child_key (keys_below child_key key node) node below)) (rekeyed-under_each (keys_below child_key key node) above tree) ∙
      ap (λ t. under_each (map f (keys_below child_key key node)) above tree ++ t) (rekeyed-tables_below below node (keys_below child_key key node)) ∙
      ap other_of (keys-longer key (visible_names node))) keys) ∙
      ap (λ t. flat_map (λ key. other_of (keys_below other key node)) (map f keys) ++ t) (rekeyed-tables_below rest above keys)

  -- in table order
  pub rekeyed-table_visits : (key : A) (tree : Tree) → map (rekeyed f) (table_visits child_key key tree) ≡ table_visits other (f key) tree
  rekeyed-table_visits key tree = ap (λ t. keyed (f key) tree.node tree ∷ t) (rekeyed-tables_below tree.children tree.node (key ∷ []))

-- the text of a longer path is the text of the path with the name joined to it
pub joined_path-longer : (separator first : List ℕ) (path : List (List ℕ)) (name : List ℕ) →
    joined_path separator first (longer_path path name) ≡ joined separator (joined_path separator first path) name
joined_path-longer separator first path name =
    let text = λ (name : List ℕ). separator ++ name in
    ap (λ t. first ++ t) (flat_map-append text path (name ∷ []) ∙ ap (λ t. flat_map text path ++ t) (append-nil (separator ++ name))) ∙
    sym (append_assoc first (flat_map text path) (separator ++ name)) ∙ sym (append_assoc (joined_path separator first path) separator name)
