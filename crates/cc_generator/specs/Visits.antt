-- The visits of a tree: each node under each of its keys, in the two orders in which scripts list
-- nodes. A key may be a path, which grows by a name, or a text, to which a name is joined.
use Rattle.std.specs.Prelude.{ℕ, List, [], ◌∷◌, ◌++◌, map}
use Rattle.std.specs.List.{flat_map}
use Rattle.cc_command.specs.declared.node.Node.{Node}
use Rattle.cc_command.specs.Tree.{Forest, none, more, Tree}
use Rattle.cc_command.specs.Names.{visible_names}

-- a node with everything below it, its key, and the node above it: its parent, or itself if it is
-- the root
pub record Keyed (Key : Type 0) : Type 0 where
  pub key : Key
  pub above : Node
  pub tree : Tree

-- a tree under a key, with the node above it
abbrev pub keyed : {Key : Type 0} → Key → Node → Tree → Keyed Key
keyed key above tree = record { key = key; above = above; tree = tree }

-- the keys of a child below one key: one for each of its visible names
abbrev pub keys_below : {Key : Type 0} → (Key → List ℕ → Key) → Key → Node → List Key
keys_below child_key key node = map (child_key key) (visible_names node)

-- Path order below a node with the given key: child by child and name by name, the child under the
-- longer key, followed by everything below it.
unfoldable pub paths_below : {Key : Type 0} → (Key → List ℕ → Key) → Key → Node → Forest
    → List (Keyed Key)
paths_below child_key key above none = []
paths_below child_key key above (more node below rest) =
    flat_map (λ child.
    keyed child above (record { node = node; children = below })
    ∷ paths_below child_key child node below) (keys_below child_key key node) ++
    paths_below child_key key above rest

-- the root under a key, then everything below it, in path order
abbrev pub path_visits : {Key : Type 0} → (Key → List ℕ → Key) → Key → Tree → List (Keyed Key)
path_visits child_key key tree =
    keyed key tree.node tree ∷ paths_below child_key key tree.node tree.children

-- a tree under each of the given keys, with the node above it
abbrev pub under_each : {Key : Type 0} → List Key → Node → Tree → List (Keyed Key)
under_each keys above tree = map (λ key. keyed key above tree) keys

-- Table order below a node with the given keys: child by child, and for each of the keys, the child
-- under its longer keys, followed by everything below it.
unfoldable pub tables_below : {Key : Type 0} → (Key → List ℕ → Key) → List Key → Node → Forest
    → List (Keyed Key)
tables_below child_key keys above none = []
tables_below child_key keys above (more node below rest) =
    flat_map (λ key.
    under_each (keys_below child_key key node) above (record { node = node; children = below }) ++
    tables_below child_key (keys_below child_key key node) node below) keys ++
    tables_below child_key keys above rest

-- the root under a key, then everything below it, in table order
abbrev pub table_visits : {Key : Type 0} → (Key → List ℕ → Key) → Key → Tree → List (Keyed Key)
table_visits child_key key tree =
    keyed key tree.node tree ∷ tables_below child_key (key ∷ []) tree.node tree.children

-- a child below one key of its parent, in table order: the child under its longer keys, then
-- everything below it
abbrev pub tables_from : {Key : Type 0} → (Key → List ℕ → Key) → Key → Node → Tree
    → List (Keyed Key)
tables_from child_key key above tree =
    under_each (keys_below child_key key tree.node) above tree
    ++ tables_below child_key (keys_below child_key key tree.node) tree.node tree.children

-- ---- keys

-- a path with one more name
abbrev pub longer_path : List (List ℕ) → List ℕ → List (List ℕ)
longer_path path name = path ++ name ∷ []

-- a text with one more name after a separator
abbrev pub joined : List ℕ → List ℕ → List ℕ → List ℕ
joined separator key name = key ++ separator ++ name

-- a path as a text: a first text, followed by the names with a separator before each
abbrev pub joined_path : List ℕ → List ℕ → List (List ℕ) → List ℕ
joined_path separator first path = first ++ flat_map (λ name. separator ++ name) path

-- a visit under another key
abbrev pub rekeyed : {A B : Type 0} → (A → B) → Keyed A → Keyed B
rekeyed key visit = keyed (key visit.key) visit.above visit.tree

-- ---- with steps at the ends of nodes

-- a node is entered under a key, or left again
pub data Step (Key : Type 0) : Type 0 where
  enter : Keyed Key → Step Key
  leave : Keyed Key → Step Key

-- Path order with ends, below a node with the given key: each child is entered and, after
-- everything below it, left.
unfoldable pub steps_below : {Key : Type 0} → (Key → List ℕ → Key) → Key → Node → Forest
    → List (Step Key)
steps_below child_key key above none = []
steps_below child_key key above (more node below rest) =
    flat_map (λ child.
    enter (keyed child above (record { node = node; children = below })) ∷
    (steps_below child_key child node below ++ leave
    (keyed child above (record { node = node; children = below }))
    ∷ [])) (keys_below child_key key node) ++
    steps_below child_key key above rest

-- a tree under a key is entered and, after everything below it, left
abbrev pub steps_from : {Key : Type 0} → (Key → List ℕ → Key) → Key → Node → Tree → List (Step Key)
steps_from child_key key above tree =
    enter (keyed key above tree) ∷
    (steps_below child_key key tree.node tree.children ++ leave (keyed key above tree) ∷ [])

-- the same for the root
abbrev pub path_steps : {Key : Type 0} → (Key → List ℕ → Key) → Key → Tree → List (Step Key)
path_steps child_key key tree = steps_from child_key key tree.node tree

-- what a visit gives when its node is entered; nothing when its node is left
abbrev pub where_entered : {Key B : Type 0} → (Keyed Key → List B) → Step Key → List B
where_entered of_visit (enter visit) = of_visit visit
where_entered of_visit (leave visit) = []
