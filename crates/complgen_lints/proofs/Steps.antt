-- The number of nodes below a child.
use Rattle.std.proofs.Common.{◌≡◌, sym, subst, ℕ, suc, zero, ◌+◌, ◌<◌, ◌≤◌, List, [], ◌∷◌, length, get_or, arith}
use Rattle.cc_command.specs.Tree.{Tree, forest_of, forest_size, tree_size}

some_smaller : (trees : List Tree) (index : ℕ) (other : Tree) → index < length trees →
    tree_size (get_or trees index other) + 1 ≤ forest_size (forest_of trees)
some_smaller [] index other within = absurd (omega (arith, within))
some_smaller (tree ∷ trees) zero other within = omega arith
some_smaller (tree ∷ trees) (suc index) other within = omega (arith, some_smaller trees index other (omega (arith, within)))

-- a child has fewer nodes below it than all children have together
pub child_smaller : (trees : List Tree) (index : ℕ) (tree : Tree) → index < length trees → tree ≡ get_or trees index tree →
    tree_size tree + 1 ≤ forest_size (forest_of trees)
child_smaller trees index tree within is =
    subst (λ (one : Tree). tree_size one + 1 ≤ forest_size (forest_of trees)) (sym is) (some_smaller trees index tree within)
