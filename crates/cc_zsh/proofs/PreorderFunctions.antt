-- The functions of the nodes below the root, in preorder.
use Rattle.std.proofs.Common.{◌≡◌, ℕ, suc, ◌∷◌, ◌++◌, map, refl, ap, ap₂, ◌∙◌}
use Rattle.std.proofs.lemmas.List.{map-append}
use Rattle.cc_command.specs.Tree.{Forest, none, more}
use Rattle.cc_generator.specs.Preorder.{Levelled, preorder}
use Rattle.cc_zsh.specs.Functions.{Function, function_of, functions_below}

-- the function of a node
abbrev pub function_at : Levelled → Function
function_at node = function_of node.tree.node node.tree.children

pub functions_in_preorder : (level : ℕ) (forest : Forest) →
    map function_at (preorder level forest) ≡ functions_below forest
functions_in_preorder level none = refl
functions_in_preorder level (more node below rest) =
    ap (λ t. function_of node below ∷ t)
    (map-append function_at (preorder (suc level) below) (preorder level rest)
    ∙ ap₂ (λ a b. a ++ b) (functions_in_preorder (suc level) below)
    (functions_in_preorder level rest))
