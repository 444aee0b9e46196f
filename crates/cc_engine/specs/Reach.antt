-- The path down the tree: a division of the whole list of words.
use Rattle.std.specs.Prelude.{ℕ, List, ◌∷◌, ◌++◌, ◌≡◌, ◌||◌, Bool, false, Some, None, codes}
use Rattle.std.specs.List.{All}
use Rattle.cc_command.specs.Tree.{Tree}
use Rattle.cc_command.specs.Names.{contains_name, find_child}

-- no child of the node has the word as its name or an alias, visible or hidden
abbrev pub NamesNoChild : Tree → List ℕ → Type 0
NamesNoChild tree word = find_child tree.children word ≡ None

-- The words lead from a tree to a last one. `tail` contains the words after the last descent, and
-- `before` tells whether `--` is among the earlier words that name no child.
pub data Reach : Tree → List (List ℕ) → Tree → List (List ℕ) → Bool → Type 0 where
  Stay : {tree : Tree} {words : List (List ℕ)} → All (NamesNoChild tree) words
      → Reach tree words tree words false
  Descend : {tree child last : Tree} {words tail : List (List ℕ)} {before : Bool}
      (skipped : List (List ℕ)) (name : List ℕ) (after : List (List ℕ))
      → words ≡ skipped ++ name ∷ after
      → All (NamesNoChild tree) skipped
      → find_child tree.children name ≡ Some child
      → Reach child after last tail before
      → Reach tree words last tail (contains_name skipped (codes "--") || before)
