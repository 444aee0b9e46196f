-- The nodes of a small tree in preorder.
use Rattle.std.proofs.Common.{◌≡◌, ℕ, List, [], ◌∷◌, map, codes, refl}
use Rattle.cc_command.specs.Made.{new_tree, with_child}
use Rattle.cc_command.specs.Tree.{Tree}
use Rattle.cc_generator.specs.Preorder.{Levelled, preorder}

-- `app` with the children `run`, which has a child `job`, and `list`
abbrev app : Tree
app =
    let run = with_child (new_tree (codes "run")) (new_tree (codes "job")) in
    with_child (with_child (new_tree (codes "app")) run) (new_tree (codes "list"))

-- a node's name and its level
abbrev shown : Levelled → List ℕ × ℕ
shown node = (node.tree.node.name, node.level)

-- `run` with everything below it, then `list`
below : map shown (preorder 2 app.children)
    ≡ (codes "run", 2) ∷ (codes "job", 3) ∷ (codes "list", 2) ∷ []
below = refl
