-- Adding a list of arguments or of children at once is adding each in order.
use Rattle.std.proofs.Common.{◌≡◌, ℕ, ◌<◌, List, [], ◌∷◌, ◌++◌, true, false, cond, length, arith, refl, ap, ◌∙◌, sym, append_assoc, append-nil}
use Rattle.std.specs.Prelude.{fold}
use Rattle.cc_arg.specs.declared.parts.ArgParts.{ArgParts as Arg}
use Rattle.cc_arg.specs.Arguments.{is_positional}
use Rattle.cc_command.specs.declared.node.Node.{Node}
use Rattle.cc_command.specs.Tree.{Forest, none, more, join, Tree, forest_of}
use Rattle.cc_command.specs.Made.{next_order, ordered_argument, ordered_node, with_argument, with_child, order_after, order_after_child, with_order, ordered_arguments, ordered_children}
use Rattle.cc_command.proofs.PutIn.{join_assoc}
use Rattle.cc_command.proofs.BuiltAgain.{join-none}

-- the node with these arguments and this next display order, not built
abbrev pub changed_node : Node → List Arg → ℕ → Node
changed_node node arguments order = record node { arguments = arguments; next_order = order; built = false }

with_argument-ordered : (node : Node) (argument : Arg) → with_argument node argument ≡
    changed_node node (node.arguments ++ with_order node.next_order argument ∷ []) (order_after node.next_order argument)
with_argument-ordered node argument = elim (is_positional argument) as (λ b.
    cond b (record node { arguments = node.arguments ++ argument ∷ []; built = false })
    (changed_node node (node.arguments ++ ordered_argument node.next_order argument ∷ []) (next_order node.next_order)) ≡
    changed_node node (node.arguments ++ cond b argument (ordered_argument node.next_order argument) ∷ []) (cond b node.next_order (next_order node.next_order))) [
      | true ↦ refl
      | false ↦ refl
    ]

-- adding to a node that is not built
added : (node : Node) (before : List Arg) (order : ℕ) (arguments : List Arg) → fold with_argument (changed_node node before order) arguments ≡
    changed_node node (before ++ ordered_arguments order arguments) (fold order_after order arguments)
added node before order [] = ap (λ all. changed_node node all order) (sym (append-nil before))
added node before order (argument ∷ arguments) =
    ap (λ n. fold with_argument n arguments) (with_argument-ordered (changed_node node before order) argument) ∙
    added node (before ++ with_order order argument ∷ []) (order_after order argument) arguments ∙
    ap (λ all. changed_node node all (fold order_after (order_after order argument) arguments))
    (append_assoc before (with_order order argument ∷ []) (ordered_arguments (order_after order argument) arguments))

-- adding some arguments to a node
pub added_arguments : (node : Node) (arguments : List Arg) → 0 < length arguments →
    fold with_argument node arguments ≡ changed_node node (node.arguments ++ ordered_arguments node.next_order arguments) (fold order_after node.next_order arguments)
added_arguments node [] some = absurd (omega arith)
added_arguments node (argument ∷ arguments) some =
    ap (λ n. fold with_argument n arguments) (with_argument-ordered node argument) ∙
    added node (node.arguments ++ with_order node.next_order argument ∷ []) (order_after node.next_order argument) arguments ∙
    ap (λ all. changed_node node all (fold order_after node.next_order (argument ∷ arguments)))
    (append_assoc node.arguments (with_order node.next_order argument ∷ []) (ordered_arguments (order_after node.next_order argument) arguments))

-- the tree with these children and this next display order, not built
abbrev pub changed_tree : Node → Forest → ℕ → Tree
changed_tree node children order = record { node = record node { next_order = order; built = false }; children = children }

added_below : (node : Node) (before : Forest) (order : ℕ) (children : List Tree) → fold with_child (changed_tree node before order) children ≡
    changed_tree node (join before (forest_of (ordered_children order children))) (fold order_after_child order children)
added_below node before order [] = ap (λ all. changed_tree node all order) (sym (join-none before))
added_below node before order (child ∷ children) =
    added_below node (join before (more (ordered_node order child.node) child.children none)) (next_order order) children ∙
    ap (λ all. changed_tree node all (fold order_after_child (next_order order) children))
    (join_assoc before (more (ordered_node order child.node) child.children none) (forest_of (ordered_children (next_order order) children)))

-- adding some children to a tree
pub added_children : (tree : Tree) (children : List Tree) → 0 < length children →
    fold with_child tree children ≡
    changed_tree tree.node (join tree.children (forest_of (ordered_children tree.node.next_order children))) (fold order_after_child tree.node.next_order children)
added_children tree [] some = absurd (omega arith)
added_children tree (child ∷ children) some =
    added_below tree.node (join tree.children (more (ordered_node tree.node.next_order child.node) child.children none)) (next_order tree.node.next_order) children ∙
    ap (λ all. changed_tree tree.node all (fold order_after_child tree.node.next_order (child ∷ children)))
    (join_assoc tree.children (more (ordered_node tree.node.next_order child.node) child.children none) (forest_of (ordered_children (next_order tree.node.next_order) children)))
