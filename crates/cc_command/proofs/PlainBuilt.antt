-- A plain tree with a plain bin name stays plain when it is built.
use Rattle.std.proofs.Common.{◌≡◌, ℕ, suc, List, [], ◌∷◌, ◌++◌, Bool, true, false, cond, not, ◌&&◌, ◌||◌, IsTrue, Option, Some, refl, ap, sym, subst, ◌∙◌, append_assoc}
use Rattle.std.specs.List.{list_all}
use Rattle.std.specs.Str.{bytes_eq}
use Rattle.std.proofs.lemmas.Bool.Decides.{Decides-like, same_from_decides}
use Rattle.std.proofs.lemmas.Slice.Eq.{bytes_eq-Decides}
use Rattle.std.proofs.lemmas.Bool.{and_parts, and_from}
use Rattle.cc_arg.specs.declared.parts.ArgParts.{ArgParts as Arg}
use Rattle.cc_command.specs.declared.node.Node.{Node}
use Rattle.cc_command.specs.Tree.{Forest, none, more, join, Tree}
use Rattle.cc_command.specs.Names.{contains_name, has_name, has_child, full_name, joined_name}
use Rattle.cc_base.specs.PlainName.{name_byte, is_joined, is_plain_name}
use Rattle.cc_command.specs.Plain.{is_plain_tree, is_plain_forest, is_plain_node, is_plain_argument, siblings_differ, passes_if_some, all_differ, names_of, names_of_all}
use Rattle.cc_command.specs.Texts.{help_name, help_about, version_name, last_order}
use Rattle.cc_command.specs.Generated.{help_argument, version_argument, generated_node, copies, help_command, needs_help_child, help_child}
use Rattle.cc_command.specs.Built.{propagated, built_arguments, built_node, built_forest, built_under}
use Rattle.cc_command.proofs.BuiltAgain.{helped, join-none, has_child-built}
use Rattle.cc_command.proofs.BuiltArguments.{IsKept, all_built, all_propagated}
use Rattle.cc_command.proofs.DifferentNames.{all_differ_append, contains_name-names_of_all}
use Rattle.cc_command.proofs.PlainParts.{plain_more, plain_tree}
use Rattle.cc_command.proofs.SiblingNames.{first_differs}

neither : (a b : Bool) → IsTrue (not a) → IsTrue (not b) → IsTrue (not (a || b))
neither true b h k = cc
neither false b h k = k

each_not : (a b : Bool) → IsTrue (not (a || b)) → IsTrue (not a) × IsTrue (not b)
each_not true b h = cc
each_not false b h = (refl, h)

-- ---- arguments

plain_kept : IsKept is_plain_argument
unfolding help_argument version_argument help_name version_name is_plain_name is_joined name_byte
plain_kept = record {
  when_filled = λ x. refl;
  when_indexed = λ position x. refl;
  of_help = refl;
  of_version = refl;
}

plain_propagated : (inherited : List Arg) (node : Node) → IsTrue (list_all is_plain_argument inherited) → IsTrue (is_plain_node node) →
    IsTrue (list_all is_plain_argument (propagated inherited node))
plain_propagated inherited node above h =
    let arguments = list_all is_plain_argument node.arguments in
    let a = and_parts (is_plain_name node.name) (list_all is_plain_name node.visible_aliases && (list_all is_plain_name node.aliases && arguments)) h in
    let b = and_parts (list_all is_plain_name node.visible_aliases) (list_all is_plain_name node.aliases && arguments) a.1 in
    let c = and_parts (list_all is_plain_name node.aliases) arguments b.1 in
    all_propagated is_plain_argument inherited node above c.1

-- ---- nodes

-- four tests of which the last one is replaced
in_position_of_last : (a b c d e : Bool) → IsTrue (a && (b && (c && d))) → (IsTrue d → IsTrue e) → IsTrue (a && (b && (c && e)))
in_position_of_last true true true d e h follows = follows h
in_position_of_last true true false d e h follows = h
in_position_of_last true false c d e h follows = h
in_position_of_last false b c d e h follows = h

plain_built_node : (inherited : List Arg) (bin_name : Option (List ℕ)) (node : Node) → IsTrue (list_all is_plain_argument inherited) →
    IsTrue (is_plain_node node) → IsTrue (is_plain_node (built_node inherited bin_name node))
plain_built_node inherited bin_name node above h =
    in_position_of_last (is_plain_name node.name) (list_all is_plain_name node.visible_aliases) (list_all is_plain_name node.aliases)
    (list_all is_plain_argument node.arguments) (list_all is_plain_argument (built_arguments inherited node)) h (all_built is_plain_argument plain_kept inherited node above)

-- a generated node has its name and no alias
plain_generated : (name bin_name : List ℕ) (about : Option (List ℕ)) (order : ℕ) (hide : Bool) → IsTrue (is_plain_name name) →
    IsTrue (is_plain_node (generated_node name bin_name about order hide))
plain_generated name bin_name about order hide h = and_from (is_plain_name name) true h refl

-- ---- names of siblings

names_of_all-join : (a b : Forest) → names_of_all (join a b) ≡ names_of_all a ++ names_of_all b
names_of_all-join none b = refl
names_of_all-join (more node below rest) b =
    ap (λ names. names_of node ++ names) (names_of_all-join rest b) ∙ sym (append_assoc (names_of node) (names_of_all rest) (names_of_all b))

names_of_all-built : (inherited : List Arg) (parent : List ℕ) (forest : Forest) → names_of_all (built_forest inherited parent forest) ≡ names_of_all forest
names_of_all-built inherited parent none = refl
names_of_all-built inherited parent (more node below rest) = ap (λ names. names_of node ++ names) (names_of_all-built inherited parent rest)

-- if no command has a name, no copy has it
copies_lack : (parent : List ℕ) (order : ℕ) (forest : Forest) (word : List ℕ) → IsTrue (not (has_child forest word)) → IsTrue (not (has_child (copies parent order forest) word))
copies_lack parent order none word h = refl
copies_lack parent order (more node below rest) word h =
    let a = each_not (has_name node word) (has_child rest word) h in
    let b = each_not (bytes_eq node.name word || contains_name node.visible_aliases word) (contains_name node.aliases word) a.0 in
    let c = each_not (bytes_eq node.name word) (contains_name node.visible_aliases word) b.0 in
    neither (bytes_eq node.name word || false || false) (has_child (copies parent (suc order) rest) word)
    (neither (bytes_eq node.name word || false) false (neither (bytes_eq node.name word) false c.0 refl) refl)
    (copies_lack parent (suc order) rest word a.1)

-- if the names of siblings differ, those of their copies do too
copies_differ : (parent : List ℕ) (order : ℕ) (forest : Forest) → IsTrue (siblings_differ forest) → IsTrue (all_differ (names_of_all (copies parent order forest)))
copies_differ parent order none h = refl
copies_differ parent order (more node below rest) h =
    let d = first_differs node below rest h in
    let a = and_parts (not (has_child rest node.name)) (list_all (λ name. not (has_child rest name)) (node.visible_aliases ++ node.aliases)) d.apart in
    and_from (not (contains_name (names_of_all (copies parent (suc order) rest)) node.name)) (all_differ (names_of_all (copies parent (suc order) rest)))
    (subst (λ b. IsTrue (not b)) (sym (contains_name-names_of_all (copies parent (suc order) rest) node.name)) (copies_lack parent (suc order) rest node.name a.0))
    (copies_differ parent (suc order) rest d.later)

bytes_eq-turned : (xs ys : List ℕ) → bytes_eq xs ys ≡ bytes_eq ys xs
bytes_eq-turned xs ys = same_from_decides (bytes_eq xs ys) (bytes_eq ys xs) (bytes_eq-Decides xs ys) (Decides-like (bytes_eq ys xs) sym sym (bytes_eq-Decides ys xs))

apart_from_one : (names : List (List ℕ)) (word : List ℕ) → IsTrue (not (contains_name names word)) → IsTrue (list_all (λ name. not (contains_name (word ∷ []) name)) names)
apart_from_one [] word h = refl
apart_from_one (name ∷ names) word h =
    let a = each_not (bytes_eq name word) (contains_name names word) h in
    and_from (not (bytes_eq word name || false)) (list_all (λ name. not (contains_name (word ∷ []) name)) names)
    (neither (bytes_eq word name) false (subst (λ b. IsTrue (not b)) (bytes_eq-turned name word) a.0) refl)
    (apart_from_one names word a.1)

-- names that differ, with one more that is different from all of them
one_more_differs : (names : List (List ℕ)) (word : List ℕ) → IsTrue (all_differ names) → IsTrue (not (contains_name names word)) → IsTrue (all_differ (names ++ word ∷ []))
one_more_differs names word h k =
    subst IsTrue (sym (all_differ_append names (word ∷ [])))
    (and_from (all_differ names) (list_all (λ name. not (contains_name (word ∷ []) name)) names && true) h
    (and_from (list_all (λ name. not (contains_name (word ∷ []) name)) names) true (apart_from_one names word k) refl))

-- ---- the children that building adds

plain_copies : (parent : List ℕ) (order : ℕ) (forest : Forest) → IsTrue (is_plain_forest forest) → IsTrue (is_plain_forest (copies parent order forest))
unfolding siblings_differ
plain_copies parent order none h = refl
plain_copies parent order (more node below rest) h =
    let p = plain_more node below rest h in
    let name : List ℕ = joined_name parent node.name in
    let a = and_parts (is_plain_name node.name) (list_all is_plain_name node.visible_aliases && (list_all is_plain_name node.aliases && list_all is_plain_argument node.arguments)) p.first.node in
    and_from (is_plain_node (generated_node node.name name node.about order node.hide)) (siblings_differ (copies name 0 below) && (is_plain_forest (copies name 0 below) && is_plain_forest (copies parent (suc order) rest)))
    (plain_generated node.name name node.about order node.hide a.0)
    (and_from (siblings_differ (copies name 0 below)) (is_plain_forest (copies name 0 below) && is_plain_forest (copies parent (suc order) rest))
    (copies_differ name 0 below p.first.differ)
    (and_from (is_plain_forest (copies name 0 below)) (is_plain_forest (copies parent (suc order) rest))
    (plain_copies name 0 below p.first.children) (plain_copies parent (suc order) rest p.later)))

plain_join : (a b : Forest) → IsTrue (is_plain_forest a) → IsTrue (is_plain_forest b) → IsTrue (is_plain_forest (join a b))
plain_join none b h k = k
plain_join (more node below rest) b h k =
    let p = plain_more node below rest h in
    and_from (is_plain_node node) (siblings_differ below && (is_plain_forest below && is_plain_forest (join rest b))) p.first.node
    (and_from (siblings_differ below) (is_plain_forest below && is_plain_forest (join rest b)) p.first.differ
    (and_from (is_plain_forest below) (is_plain_forest (join rest b)) p.first.children (plain_join rest b p.later k)))

-- siblings whose names differ, then one more whose name none of them has
last_differs : (forest last : Forest) (word : List ℕ) → IsTrue (all_differ (names_of_all forest)) → IsTrue (not (has_child forest word)) →
    names_of_all last ≡ word ∷ [] → IsTrue (siblings_differ (join forest last))
unfolding siblings_differ
last_differs forest last word h k is =
    subst (λ names. IsTrue (all_differ names)) (sym (names_of_all-join forest last ∙ ap (λ names. names_of_all forest ++ names) is))
    (one_more_differs (names_of_all forest) word h (subst (λ b. IsTrue (not b)) (sym (contains_name-names_of_all forest word)) k))

help_name_plain : IsTrue (is_plain_name help_name)
unfolding help_name is_plain_name is_joined name_byte
help_name_plain = refl

none_differ : IsTrue (siblings_differ none)
unfolding siblings_differ
none_differ = refl

-- a generated `help` is plain if the siblings are plain and their names differ
plain_help : (parent : List ℕ) (children : Forest) → IsTrue (siblings_differ children) → IsTrue (is_plain_forest children) → IsTrue (is_plain_forest (help_command parent children))
plain_help parent children differ h =
    and_from (is_plain_node (generated_node help_name (joined_name parent help_name) (Some help_about) last_order false)) (siblings_differ children && (is_plain_forest children && true))
    (plain_generated help_name (joined_name parent help_name) (Some help_about) last_order false help_name_plain)
    (and_from (siblings_differ children) (is_plain_forest children && true) differ (and_from (is_plain_forest children) true h refl))

-- the generated child `help` is plain if no sibling has that name and the siblings are plain
plain_helped : (parent : List ℕ) (forest : Forest) → IsTrue (not (has_child forest help_name)) → IsTrue (siblings_differ forest) → IsTrue (is_plain_forest forest) →
    IsTrue (is_plain_forest (help_command parent (helped (joined_name parent help_name) forest)))
plain_helped parent forest lacks differ h =
    let name : List ℕ = joined_name parent help_name in
    plain_help parent (helped name forest)
    (last_differs (copies name 0 forest) (help_command name none) help_name (copies_differ name 0 forest differ) (copies_lack name 0 forest help_name lacks) refl)
    (plain_join (copies name 0 forest) (help_command name none) (plain_copies name 0 forest h) (plain_help name none none_differ refl))

built_differ : (inherited : List Arg) (parent : List ℕ) (forest : Forest) → IsTrue (siblings_differ forest) → IsTrue (all_differ (names_of_all (built_forest inherited parent forest)))
unfolding siblings_differ
built_differ inherited parent forest differ = subst (λ names. IsTrue (all_differ names)) (sym (names_of_all-built inherited parent forest)) differ

siblings_built_differ : (inherited : List Arg) (parent : List ℕ) (forest : Forest) → IsTrue (siblings_differ forest) → IsTrue (siblings_differ (built_forest inherited parent forest))
unfolding siblings_differ
siblings_built_differ inherited parent forest differ = built_differ inherited parent forest differ

-- if building adds a child `help`, no other child has that name
lacks_help : (node : Node) (forest : Forest) → needs_help_child node forest ≡ true → IsTrue (not (has_child forest help_name))
lacks_help node none is = refl
lacks_help node (more child below rest) is = (and_parts (not node.disable_help_subcommand) (not (has_child (more child below rest) help_name)) is).1

-- the children of a built node are plain, and their names differ
record ArePlainChildren (children : Forest) : Type 0 where
  pub differ : IsTrue (siblings_differ children)
  pub plain : IsTrue (is_plain_forest children)

with_help : (inherited : List Arg) (parent : List ℕ) (node : Node) (forest : Forest) → IsTrue (siblings_differ forest) → IsTrue (is_plain_forest forest) →
    IsTrue (is_plain_forest (built_forest inherited parent forest)) → ArePlainChildren (join (built_forest inherited parent forest) (help_child parent node forest))
with_help inherited parent node forest differ h built = added (needs_help_child node forest) refl
  where
    added : (b : Bool) → needs_help_child node forest ≡ b →
        ArePlainChildren (join (built_forest inherited parent forest) (cond b (help_command parent (helped (joined_name parent help_name) forest)) none))
    added false is = subst ArePlainChildren (sym (join-none (built_forest inherited parent forest))) (record { differ = siblings_built_differ inherited parent forest differ; plain = built })
    added true is =
        let lacks = lacks_help node forest is in
        record {
          differ = last_differs (built_forest inherited parent forest) (help_command parent (helped (joined_name parent help_name) forest)) help_name
              (built_differ inherited parent forest differ)
              (subst (λ b. IsTrue (not b)) (sym (has_child-built inherited parent forest help_name)) lacks) refl;
          plain = plain_join (built_forest inherited parent forest) (help_command parent (helped (joined_name parent help_name) forest)) built (plain_helped parent forest lacks differ h);
        }

plain_built_forest : (inherited : List Arg) (parent : List ℕ) (forest : Forest) → IsTrue (list_all is_plain_argument inherited) → IsTrue (is_plain_forest forest) →
    IsTrue (is_plain_forest (built_forest inherited parent forest))
plain_built_forest inherited parent none above h = refl
plain_built_forest inherited parent (more node below rest) above h =
    let p = plain_more node below rest h in
    let name : List ℕ = joined_name parent node.name in
    let built : Node = built_node inherited (Some name) node in
    let children_inherit : List Arg = propagated inherited node in
    let children : Forest = join (built_forest children_inherit name below) (help_child name node below) in
    let c = with_help children_inherit name node below p.first.differ p.first.children
    (plain_built_forest children_inherit name below (plain_propagated inherited node above p.first.node) p.first.children) in
    and_from (is_plain_node built) (siblings_differ children && (is_plain_forest children && is_plain_forest (built_forest inherited parent rest)))
    (plain_built_node inherited (Some name) node above p.first.node)
    (and_from (siblings_differ children) (is_plain_forest children && is_plain_forest (built_forest inherited parent rest)) c.differ
    (and_from (is_plain_forest children) (is_plain_forest (built_forest inherited parent rest)) c.plain (plain_built_forest inherited parent rest above p.later)))

-- a plain tree, with a plain bin name or without one, stays plain when it is built
pub plain_built_under : (bin_name : Option (List ℕ)) (tree : Tree) → IsTrue (passes_if_some is_plain_name bin_name) → IsTrue (is_plain_tree tree) →
    IsTrue (is_plain_tree (built_under bin_name tree))
plain_built_under bin_name tree named h =
    let p = plain_tree tree h in
    let name : List ℕ = full_name (record tree.node { bin_name = bin_name }) in
    let children_inherit : List Arg = propagated [] tree.node in
    let children : Forest = join (built_forest children_inherit name tree.children) (help_child name tree.node tree.children) in
    let c = with_help children_inherit name tree.node tree.children p.below.differ p.below.children
    (plain_built_forest children_inherit name tree.children (plain_propagated [] tree.node refl p.below.node) p.below.children) in
    and_from (passes_if_some is_plain_name bin_name) (is_plain_node (built_node [] bin_name tree.node) && (siblings_differ children && is_plain_forest children)) named
    (and_from (is_plain_node (built_node [] bin_name tree.node)) (siblings_differ children && is_plain_forest children)
    (plain_built_node [] bin_name tree.node refl p.below.node)
    (and_from (siblings_differ children) (is_plain_forest children) c.differ c.plain))
