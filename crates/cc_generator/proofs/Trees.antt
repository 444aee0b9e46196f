-- Forests and the lists of their trees.
use Rattle.std.proofs.Common.{◌≡◌, ◌+◌, List, [], ◌∷◌, ◌++◌, refl, ap, arith}
use Rattle.cc_command.specs.Tree.{Forest, none, more, Tree, forest_of, forest_size}
use Rattle.cc_generator.specs.Flat.{trees_of}

-- the trees of a forest that was built from trees
pub trees_of-forest_of : (trees : List Tree) → trees_of (forest_of trees) ≡ trees
trees_of-forest_of [] = refl
trees_of-forest_of (tree ∷ trees) = ap (λ rest. tree ∷ rest) (trees_of-forest_of trees)

-- a forest built from its own trees is the same forest
pub forest_of-trees_of : (forest : Forest) → forest_of (trees_of forest) ≡ forest
forest_of-trees_of none = refl
forest_of-trees_of (more node below rest) = ap (more node below) (forest_of-trees_of rest)

-- the number of nodes of some trees
pub forest_size-append : (xs ys : List Tree) → forest_size (forest_of (xs ++ ys)) ≡ forest_size (forest_of xs) + forest_size (forest_of ys)
forest_size-append [] ys = omega arith
forest_size-append (x ∷ xs) ys = omega (arith, forest_size-append xs ys)
