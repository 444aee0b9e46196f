-- If the possible values of a tree are quiet, those of the built tree are too.
use Rattle.std.proofs.Common.{ℕ, suc, List, [], Bool, true, false, cond, ◌&&◌, IsTrue, Option, Some, refl}
use Rattle.std.specs.List.{list_all}
use Rattle.std.proofs.lemmas.Bool.{and_parts, and_from}
use Rattle.cc_arg.specs.declared.parts.ArgParts.{ArgParts as Arg}
use Rattle.cc_command.specs.declared.node.Node.{Node}
use Rattle.cc_command.specs.Tree.{Forest, none, more, join, Tree}
use Rattle.cc_command.specs.Names.{full_name, joined_name}
use Rattle.cc_command.specs.Quiet.{is_quiet_argument, is_quiet_node, is_quiet_forest, is_quiet_tree}
use Rattle.cc_command.specs.Texts.{help_name}
use Rattle.cc_command.specs.Generated.{help_argument, version_argument, copies, help_command, needs_help_child, help_child}
use Rattle.cc_command.specs.Built.{propagated, built_node, built_forest, built_under}
use Rattle.cc_command.proofs.BuiltArguments.{IsKept, all_built, all_propagated}

quiet_kept : IsKept is_quiet_argument
unfolding help_argument version_argument
quiet_kept = record {
  when_filled = λ x. refl;
  when_indexed = λ position x. refl;
  of_help = refl;
  of_version = refl;
}

-- copies have no arguments
quiet_copies : (parent : List ℕ) (order : ℕ) (forest : Forest) → IsTrue (is_quiet_forest (copies parent order forest))
quiet_copies parent order none = refl
quiet_copies parent order (more node below rest) =
    let name : List ℕ = joined_name parent node.name in
    and_from (is_quiet_forest (copies name 0 below)) (is_quiet_forest (copies parent (suc order) rest))
    (quiet_copies name 0 below) (quiet_copies parent (suc order) rest)

quiet_join : (a b : Forest) → IsTrue (is_quiet_forest a) → IsTrue (is_quiet_forest b) → IsTrue (is_quiet_forest (join a b))
quiet_join none b h k = k
quiet_join (more node below rest) b h k =
    let p = and_parts (is_quiet_node node) (is_quiet_forest below && is_quiet_forest rest) h in
    let q = and_parts (is_quiet_forest below) (is_quiet_forest rest) p.1 in
    and_from (is_quiet_node node) (is_quiet_forest below && is_quiet_forest (join rest b)) p.0
    (and_from (is_quiet_forest below) (is_quiet_forest (join rest b)) q.0 (quiet_join rest b q.1 k))

quiet_help : (parent : List ℕ) (children : Forest) → IsTrue (is_quiet_forest children) → IsTrue (is_quiet_forest (help_command parent children))
quiet_help parent children h = and_from (is_quiet_forest children) true h refl

quiet_help_child : (parent : List ℕ) (node : Node) (children : Forest) → IsTrue (is_quiet_forest (help_child parent node children))
quiet_help_child parent node children = added (needs_help_child node children)
  where
    name : List ℕ
    name = joined_name parent help_name

    added : (b : Bool) → IsTrue (is_quiet_forest (cond b (help_command parent (join (copies name 0 children) (help_command name none))) none))
    added true = quiet_help parent (join (copies name 0 children) (help_command name none))
        (quiet_join (copies name 0 children) (help_command name none) (quiet_copies name 0 children) (quiet_help name none refl))
    added false = refl

quiet_built_forest : (inherited : List Arg) (parent : List ℕ) (forest : Forest) → IsTrue (list_all is_quiet_argument inherited) → IsTrue (is_quiet_forest forest) →
    IsTrue (is_quiet_forest (built_forest inherited parent forest))
quiet_built_forest inherited parent none above h = refl
quiet_built_forest inherited parent (more node below rest) above h =
    let p = and_parts (is_quiet_node node) (is_quiet_forest below && is_quiet_forest rest) h in
    let q = and_parts (is_quiet_forest below) (is_quiet_forest rest) p.1 in
    let name : List ℕ = joined_name parent node.name in
    let children_inherit : List Arg = propagated inherited node in
    let children : Forest = join (built_forest children_inherit name below) (help_child name node below) in
    and_from (is_quiet_node (built_node inherited (Some name) node)) (is_quiet_forest children && is_quiet_forest (built_forest inherited parent rest))
    (all_built is_quiet_argument quiet_kept inherited node above p.0)
    (and_from (is_quiet_forest children) (is_quiet_forest (built_forest inherited parent rest))
    (quiet_join (built_forest children_inherit name below) (help_child name node below)
    (quiet_built_forest children_inherit name below (all_propagated is_quiet_argument inherited node above p.0) q.0)
    (quiet_help_child name node below))
    (quiet_built_forest inherited parent rest above q.1))

-- with any bin name, or without one, a tree with quiet values still has them when it is built
pub quiet_built_under : (bin_name : Option (List ℕ)) (tree : Tree) → IsTrue (is_quiet_tree tree) → IsTrue (is_quiet_tree (built_under bin_name tree))
quiet_built_under bin_name tree h =
    let p = and_parts (is_quiet_node tree.node) (is_quiet_forest tree.children) h in
    let name : List ℕ = full_name (record tree.node { bin_name = bin_name }) in
    let children_inherit : List Arg = propagated [] tree.node in
    and_from (is_quiet_node (built_node [] bin_name tree.node)) (is_quiet_forest (join (built_forest children_inherit name tree.children) (help_child name tree.node tree.children)))
    (all_built is_quiet_argument quiet_kept [] tree.node refl p.0)
    (quiet_join (built_forest children_inherit name tree.children) (help_child name tree.node tree.children)
    (quiet_built_forest children_inherit name tree.children (all_propagated is_quiet_argument [] tree.node refl p.0) p.1)
    (quiet_help_child name tree.node tree.children))
