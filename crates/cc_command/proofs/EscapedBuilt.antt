-- If the quotes of a tree are escaped, those of the built tree are too.
use Rattle.std.proofs.Common.{ℕ, suc, List, [], Bool, true, false, cond, ◌&&◌, IsTrue, Option, Some, refl}
use Rattle.std.specs.List.{list_all}
use Rattle.std.proofs.lemmas.Bool.{and_parts, and_from}
use Rattle.cc_arg.specs.declared.parts.ArgParts.{ArgParts as Arg}
use Rattle.cc_command.specs.declared.node.Node.{Node}
use Rattle.cc_command.specs.Tree.{Forest, none, more, join, Tree}
use Rattle.cc_command.specs.Escaped.{is_escaped_argument, is_escaped_forest, is_escaped_node, is_escaped_text, is_escaped_tree}
use Rattle.cc_command.specs.Names.{full_name, joined_name}
use Rattle.cc_command.specs.Plain.{passes_if_some}
use Rattle.cc_command.specs.Texts.{help_about, help_help, help_name, version_help}
use Rattle.cc_command.specs.Generated.{help_argument, version_argument, copies, generated_node, help_command, needs_help_child, help_child}
use Rattle.cc_command.specs.Built.{propagated, built_node, built_forest, built_under, built_arguments}
use Rattle.cc_command.proofs.BuiltArguments.{IsKept, all_built, all_propagated}

escaped_kept : IsKept is_escaped_argument
unfolding help_argument version_argument help_help version_help
escaped_kept = record {
  when_filled = λ x. refl;
  when_indexed = λ position x. refl;
  of_help = refl;
  of_version = refl;
}

-- the description and the arguments of an escaped node
pub record IsEscapedNode (node : Node) : Type 0 where
  pub about : IsTrue (passes_if_some is_escaped_text node.about)
  pub arguments : IsTrue (list_all is_escaped_argument node.arguments)

pub escaped_node : (node : Node) → IsTrue (is_escaped_node node) → IsEscapedNode node
escaped_node node h =
    let parts = and_parts (passes_if_some is_escaped_text node.about) (list_all is_escaped_argument node.arguments) h in
    record { about = parts.0; arguments = parts.1 }

-- the first of escaped siblings, the commands below it, and the siblings after it
pub record IsEscapedMore (node : Node) (below rest : Forest) : Type 0 where
  pub first : IsTrue (is_escaped_node node)
  pub lower : IsTrue (is_escaped_forest below)
  pub later : IsTrue (is_escaped_forest rest)

pub escaped_more : (node : Node) (below rest : Forest) → IsTrue (is_escaped_forest (more node below rest)) → IsEscapedMore node below rest
escaped_more node below rest h =
    let a = and_parts (is_escaped_node node) (is_escaped_forest below && is_escaped_forest rest) h in
    let b = and_parts (is_escaped_forest below) (is_escaped_forest rest) a.1 in
    record { first = a.0; lower = b.0; later = b.1 }

more_escaped : (node : Node) (below rest : Forest) → IsTrue (is_escaped_node node) → IsTrue (is_escaped_forest below) → IsTrue (is_escaped_forest rest) →
    IsTrue (is_escaped_forest (more node below rest))
more_escaped node below rest h k l =
    and_from (is_escaped_node node) (is_escaped_forest below && is_escaped_forest rest) h
    (and_from (is_escaped_forest below) (is_escaped_forest rest) k l)

-- copies keep their descriptions and have no arguments
copies_escaped : (parent : List ℕ) (order : ℕ) (forest : Forest) → IsTrue (is_escaped_forest forest) → IsTrue (is_escaped_forest (copies parent order forest))
copies_escaped parent order none h = refl
copies_escaped parent order (more node below rest) h =
    let each = escaped_more node below rest h in
    let name : List ℕ = joined_name parent node.name in
    more_escaped (generated_node node.name name node.about order node.hide) (copies name 0 below) (copies parent (suc order) rest)
    (and_from (passes_if_some is_escaped_text node.about) true (escaped_node node each.first).about refl)
    (copies_escaped name 0 below each.lower) (copies_escaped parent (suc order) rest each.later)

join_escaped : (a b : Forest) → IsTrue (is_escaped_forest a) → IsTrue (is_escaped_forest b) → IsTrue (is_escaped_forest (join a b))
join_escaped none b h k = k
join_escaped (more node below rest) b h k =
    let each = escaped_more node below rest h in
    more_escaped node below (join rest b) each.first each.lower (join_escaped rest b each.later k)

help_escaped : (parent : List ℕ) (children : Forest) → IsTrue (is_escaped_forest children) → IsTrue (is_escaped_forest (help_command parent children))
unfolding help_about
help_escaped parent children h = and_from (is_escaped_forest children) true h refl

help_child_escaped : (parent : List ℕ) (node : Node) (children : Forest) → IsTrue (is_escaped_forest children) → IsTrue (is_escaped_forest (help_child parent node children))
help_child_escaped parent node children h = added (needs_help_child node children)
  where
    name : List ℕ
    name = joined_name parent help_name

    added : (b : Bool) → IsTrue (is_escaped_forest (cond b (help_command parent (join (copies name 0 children) (help_command name none))) none))
    added true = help_escaped parent (join (copies name 0 children) (help_command name none))
        (join_escaped (copies name 0 children) (help_command name none) (copies_escaped name 0 children h) (help_escaped name none refl))
    added false = refl

node_escaped : (inherited : List Arg) (bin_name : Option (List ℕ)) (node : Node) → IsTrue (list_all is_escaped_argument inherited) → IsEscapedNode node →
    IsTrue (is_escaped_node (built_node inherited bin_name node))
node_escaped inherited bin_name node above h =
    and_from (passes_if_some is_escaped_text node.about) (list_all is_escaped_argument (built_arguments inherited node)) h.about
    (all_built is_escaped_argument escaped_kept inherited node above h.arguments)

forest_escaped : (inherited : List Arg) (parent : List ℕ) (forest : Forest) → IsTrue (list_all is_escaped_argument inherited) → IsTrue (is_escaped_forest forest) →
    IsTrue (is_escaped_forest (built_forest inherited parent forest))
forest_escaped inherited parent none above h = refl
forest_escaped inherited parent (more node below rest) above h =
    let each = escaped_more node below rest h in
    let own = escaped_node node each.first in
    let name : List ℕ = joined_name parent node.name in
    let children_inherit : List Arg = propagated inherited node in
    more_escaped (built_node inherited (Some name) node) (join (built_forest children_inherit name below) (help_child name node below)) (built_forest inherited parent rest)
    (node_escaped inherited (Some name) node above own)
    (join_escaped (built_forest children_inherit name below) (help_child name node below)
    (forest_escaped children_inherit name below (all_propagated is_escaped_argument inherited node above own.arguments) each.lower)
    (help_child_escaped name node below each.lower))
    (forest_escaped inherited parent rest above each.later)

-- with any bin name, or without one
pub escaped_built_under : (bin_name : Option (List ℕ)) (tree : Tree) → IsTrue (is_escaped_tree tree) → IsTrue (is_escaped_tree (built_under bin_name tree))
escaped_built_under bin_name tree h =
    let parts = and_parts (is_escaped_node tree.node) (is_escaped_forest tree.children) h in
    let own = escaped_node tree.node parts.0 in
    let name : List ℕ = full_name (record tree.node { bin_name = bin_name }) in
    let children_inherit : List Arg = propagated [] tree.node in
    and_from (is_escaped_node (built_node [] bin_name tree.node)) (is_escaped_forest (join (built_forest children_inherit name tree.children) (help_child name tree.node tree.children)))
    (node_escaped [] bin_name tree.node refl own)
    (join_escaped (built_forest children_inherit name tree.children) (help_child name tree.node tree.children)
    (forest_escaped children_inherit name tree.children (all_propagated is_escaped_argument [] tree.node refl own.arguments) parts.1)
    (help_child_escaped name tree.node tree.children parts.1))
