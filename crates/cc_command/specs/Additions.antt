-- The additions that building makes to a tree: a list that is allocated before the tree changes.
use Rattle.std.specs.Prelude.{◌≡◌, ℕ, suc, ◌+◌, ◌<◌, ◌≤◌, List, [], ◌∷◌, ◌++◌, length, Option, Some, Vec, vec_capacity}
use Rattle.std.specs.declared.alloc.Global.{Global}
use Rattle.cc_arg.specs.declared.parts.ArgParts.{ArgParts as Arg}
use Rattle.cc_command.specs.declared.node.Node.{Node}
use Rattle.cc_command.specs.declared.command.build.additions.Addition.{Addition}
use Rattle.cc_command.specs.Tree.{Forest, none, more, Tree, forest_of}
use Rattle.cc_command.specs.Names.{full_name, joined_name}
use Rattle.cc_command.specs.Generated.{generated_arguments, help_child}
use Rattle.cc_command.specs.Built.{with_missing, given_arguments, propagated, built_forest, built_below}

-- the number of siblings
abbrev pub sibling_count : Forest → ℕ
sibling_count none = 0
sibling_count (more node below rest) = suc (sibling_count rest)

-- a list has room for this many further items; an empty list needs no room
abbrev pub HasRoom : {A : Type 0} → ℕ → Vec A Global → Type 0
HasRoom count added = 0 < length added.items → count + length added.items ≤ vec_capacity added

-- the addition to a node with these children, which gets this bin name, under a parent that
-- propagates these arguments; each list has room for those that the command has already
pub record IsAddition (inherited : List Arg) (bin_name : Option (List ℕ)) (node : Node)
    (below : Forest) (addition : Addition) : Type 0 where
  pub named : addition.bin_name ≡ bin_name
  pub arguments : node.arguments ++ addition.arguments.items
      ≡ with_missing (given_arguments inherited node) (generated_arguments node)
  pub children : forest_of addition.children.items
      ≡ help_child (full_name (record node { bin_name = bin_name })) node below
  pub room : HasRoom (length node.arguments) addition.arguments
  pub children_room : HasRoom (sibling_count below) addition.children

-- a place in a list at which the items of the first fact end and those of the second begin
pub record Between (first second : List Addition → Type 0) : Type 0 where
  pub left : List Addition
  pub ends : first left
  pub begins : second left

-- a list begins with the additions to some siblings and to all commands below them, under a parent
-- of this full name that propagates these arguments. The addition to a command comes before those
-- to its children, and `later` comes after all of them.
abbrev pub AreAdditions : List Arg → List ℕ → Forest → List Addition → List Addition → Type 0
AreAdditions inherited parent none additions later = additions ≡ later
AreAdditions inherited parent (more node below rest) [] later = ⊥
AreAdditions inherited parent (more node below rest) (addition ∷ additions) later =
    IsAddition inherited (Some (joined_name parent node.name)) node below addition ×
    Between (λ left. AreAdditions (propagated inherited node)
    (joined_name parent node.name) below additions left)
    (λ left. AreAdditions inherited parent rest left later)

-- the same for a tree that gets this bin name
abbrev pub AreOfTree : List Arg → Option (List ℕ) → Tree → List Addition → List Addition → Type 0
AreOfTree inherited bin_name tree [] later = ⊥
AreOfTree inherited bin_name tree (addition ∷ additions) later =
    IsAddition inherited bin_name tree.node tree.children addition ×
    AreAdditions (propagated inherited tree.node)
    (full_name (record tree.node { bin_name = bin_name })) tree.children additions later

-- the additions to some siblings were appended to the earlier ones
pub record AreAfter (inherited : List Arg) (parent : List ℕ) (siblings : Forest)
    (before after : List Addition) : Type 0 where
  pub added : List Addition
  pub all : after ≡ before ++ added
  pub fit : AreAdditions inherited parent siblings added []

-- the same for a tree
pub record AreOfTreeAfter (inherited : List Arg) (bin_name : Option (List ℕ)) (tree : Tree)
    (before after : List Addition) : Type 0 where
  pub added : List Addition
  pub all : after ≡ before ++ added
  pub fit : AreOfTree inherited bin_name tree added []

-- a list begins with additions to some siblings
pub record Suit (siblings : Forest) (additions : List Addition) : Type 0 where
  pub inherited : List Arg
  pub parent : List ℕ
  pub later : List Addition
  pub fit : AreAdditions inherited parent siblings additions later

-- a list begins with additions to a tree
pub record SuitTree (tree : Tree) (additions : List Addition) : Type 0 where
  pub inherited : List Arg
  pub bin_name : Option (List ℕ)
  pub later : List Addition
  pub fit : AreOfTree inherited bin_name tree additions later

-- the additions to some siblings build them, and the later additions are left
abbrev pub AreBuiltBy : Forest → List Addition → Forest → List Addition → Type 0
AreBuiltBy siblings additions built left =
    (inherited : List Arg) (parent : List ℕ) (later : List Addition)
    → AreAdditions inherited parent siblings additions later →
    (built ≡ built_forest inherited parent siblings) × (left ≡ later)

-- the same for a tree
abbrev pub IsBuiltBy : Tree → List Addition → Tree → List Addition → Type 0
IsBuiltBy tree additions built left =
    (inherited : List Arg) (bin_name : Option (List ℕ)) (later : List Addition)
    → AreOfTree inherited bin_name tree additions later →
    (built ≡ built_below inherited bin_name tree) × (left ≡ later)
