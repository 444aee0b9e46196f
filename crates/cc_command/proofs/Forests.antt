-- Definitions on forests, applied to the forest of a list of trees.
use Rattle.std.proofs.Common.{◌≡◌, ℕ, zero, suc, ◌+◌, ◌<◌, List, [], ◌∷◌, ◌++◌, length, get_or, not, ◌&&◌, ◌==◌, refl, ap, ◌∙◌, sym, arith, add-zero, zero-add, false}
use Rattle.std.proofs.lemmas.Bool.Decides.{nat_tests}
use Rattle.cc_command.specs.declared.node.Node.{Node}
use Rattle.cc_command.specs.Texts.{help_name}
use Rattle.cc_command.specs.Tree.{Forest, none, more, join, has_nodes, Tree, forest_of, forest_size}
use Rattle.cc_command.specs.Names.{has_child, joined_name}
use Rattle.cc_command.specs.Generated.{copies, generated_node, help_command, needs_help_child}
use Rattle.cc_command.proofs.BuiltAgain.{helped}

pub forest_of-append : (xs ys : List Tree) → forest_of (xs ++ ys) ≡ join (forest_of xs) (forest_of ys)
forest_of-append [] ys = refl
forest_of-append (x ∷ xs) ys = ap (more x.node x.children) (forest_of-append xs ys)

pub has_nodes_forest_of : (trees : List Tree) → has_nodes (forest_of trees) ≡ not (length trees == 0)
has_nodes_forest_of [] = refl
has_nodes_forest_of (tree ∷ trees) =
    let inhabited : (length (tree ∷ trees) == 0) ≡ false = grind (arith, nat_tests) in
    ap not (sym inhabited)

-- a node of a forest has fewer nodes below it than the forest has
pub below_is_smaller : (trees : List Tree) (i : ℕ) (d : Tree) → i < length trees →
    forest_size (get_or trees i d).children < forest_size (forest_of trees)
below_is_smaller [] i d lt = omega (arith, lt)
below_is_smaller (tree ∷ trees) zero d lt = omega arith
below_is_smaller (tree ∷ trees) (suc i) d lt = omega (arith, below_is_smaller trees i d (omega (arith, lt)))

-- one more sibling is copied at the next position
abbrev copy_of : List ℕ → ℕ → Tree → Forest → Forest
copy_of parent position tree later =
    more (generated_node tree.node.name (joined_name parent tree.node.name) tree.node.about position tree.node.hide)
    (copies (joined_name parent tree.node.name) 0 tree.children) later

copies-append : (parent : List ℕ) (position : ℕ) (trees : List Tree) (tree : Tree) →
    copies parent position (forest_of (trees ++ tree ∷ [])) ≡ join (copies parent position (forest_of trees)) (copies parent (position + length trees) (forest_of (tree ∷ [])))
copies-append parent position [] tree = ap (λ p. copies parent p (forest_of (tree ∷ []))) (sym (add-zero position))
copies-append parent position (x ∷ xs) tree =
    ap (λ f. copy_of parent position x f) (copies-append parent (suc position) xs tree) ∙
    ap (λ p. copy_of parent position x (join (copies parent (suc position) (forest_of xs)) (copies parent p (forest_of (tree ∷ [])))))
    (let e : suc position + length xs ≡ position + suc (length xs) = omega arith in e)

pub copies-push : (parent : List ℕ) (made trees : List Tree) (tree : Tree) (copy : Tree) →
    forest_of made ≡ copies parent 0 (forest_of trees) →
    forest_of (copy ∷ []) ≡ copies parent (length trees) (forest_of (tree ∷ [])) →
    forest_of (made ++ copy ∷ []) ≡ copies parent 0 (forest_of (trees ++ tree ∷ []))
copies-push parent made trees tree copy so_far is =
    forest_of-append made (copy ∷ []) ∙ ap (λ f. join f (forest_of (copy ∷ []))) so_far ∙
    ap (join (copies parent 0 (forest_of trees))) is ∙
    sym (copies-append parent 0 trees tree ∙ ap (λ p. join (copies parent 0 (forest_of trees)) (copies parent p (forest_of (tree ∷ [])))) (zero-add (length trees)))

-- the copies, then a child `help`, are the children of a generated `help`
pub helped-push : (name : List ℕ) (made : List Tree) (forest : Forest) (last : Tree) →
    forest_of made ≡ copies name 0 forest → forest_of (last ∷ []) ≡ help_command name none → forest_of (made ++ last ∷ []) ≡ helped name forest
helped-push name made forest last so_far is =
    forest_of-append made (last ∷ []) ∙ ap (λ f. join f (forest_of (last ∷ []))) so_far ∙ ap (join (copies name 0 forest)) is

-- the child `help` is missing from a list of children
pub needs_help_child-forest_of : (node : Node) (trees : List Tree) →
    needs_help_child node (forest_of trees) ≡ (not (length trees == 0) && (not node.disable_help_subcommand && not (has_child (forest_of trees) help_name)))
needs_help_child-forest_of node [] = refl
needs_help_child-forest_of node (tree ∷ trees) =
    let inhabited : (length (tree ∷ trees) == 0) ≡ false = grind (arith, nat_tests) in
    ap (λ b. not b && (not node.disable_help_subcommand && not (has_child (forest_of (tree ∷ trees)) help_name))) (sym inhabited)
