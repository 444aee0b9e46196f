-- The parts of the tests for plain trees.
use Rattle.std.proofs.Common.{ℕ, Bool, ◌&&◌, IsTrue, List, Option, Some, None, unwrap_or, inl, inr, subst}
use Rattle.std.specs.Char.{is_ascii_alphanumeric}
use Rattle.std.specs.List.{AllByRecursion, list_all}
use Rattle.std.proofs.lemmas.Bool.{and_parts}
use Rattle.cc_base.proofs.Booleans.{each_passes}
use Rattle.cc_base.proofs.Members.{AllByRecursion-weaker, AllByRecursion-filter}
use Rattle.cc_arg.specs.declared.parts.ArgParts.{ArgParts as Arg}
use Rattle.cc_arg.specs.ShownNames.{with_aliases}
use Rattle.cc_command.specs.declared.node.Node.{Node}
use Rattle.cc_command.specs.Tree.{Forest, none, more, Tree, IsSibling}
use Rattle.cc_command.specs.ArgumentLists.{is_option, is_flag, options, flags}
use Rattle.cc_command.specs.Names.{full_name, visible_names}
use Rattle.cc_base.specs.PlainName.{is_plain_name}
use Rattle.cc_command.specs.Plain.{is_plain_tree, is_plain_forest, is_plain_node, is_plain_argument, siblings_differ, passes_if_some, has_no_quote}

-- the name is plain
abbrev pub IsPlainName : List ℕ → Type 0
IsPlainName name = IsTrue (is_plain_name name)

-- a letter or a digit
abbrev pub IsPlainShort : ℕ → Type 0
IsPlainShort short = IsTrue (is_ascii_alphanumeric short)

-- no byte is a quote
abbrev pub HasNoQuote : List ℕ → Type 0
HasNoQuote text = IsTrue (has_no_quote text)

-- the names of a plain argument, visible and hidden
pub record IsPlainArgument (argument : Arg) : Type 0 where
  pub id : HasNoQuote argument.id
  pub value_names : AllByRecursion HasNoQuote argument.value_names
  pub short : IsTrue (passes_if_some is_ascii_alphanumeric argument.short)
  pub shorts : AllByRecursion IsPlainShort argument.visible_short_aliases
  pub hidden_shorts : AllByRecursion IsPlainShort argument.short_aliases
  pub long : IsTrue (passes_if_some is_plain_name argument.long)
  pub longs : AllByRecursion IsPlainName argument.visible_aliases
  pub hidden_longs : AllByRecursion IsPlainName argument.aliases

-- the visible names of a plain argument
pub shown_plain : {Name : Type 0} (is_plain : Name → Bool) (first : Option Name) (aliases : List Name) →
    IsTrue (passes_if_some is_plain first) → AllByRecursion (λ name. IsTrue (is_plain name)) aliases →
    AllByRecursion (λ name. IsTrue (is_plain name)) (with_aliases first aliases)
shown_plain is_plain None aliases h k = tt
shown_plain is_plain (Some name) aliases h k = (h, k)

pub plain_argument : (argument : Arg) → IsTrue (is_plain_argument argument) → IsPlainArgument argument
plain_argument argument h =
    let longs = list_all is_plain_name argument.visible_aliases && list_all is_plain_name argument.aliases in
    let long = passes_if_some is_plain_name argument.long && longs in
    let hidden = list_all is_ascii_alphanumeric argument.short_aliases && long in
    let shorts = list_all is_ascii_alphanumeric argument.visible_short_aliases && hidden in
    let short = passes_if_some is_ascii_alphanumeric argument.short && shorts in
    let names = list_all has_no_quote argument.value_names && short in
    let a = and_parts (has_no_quote argument.id) names h in
    let b = and_parts (list_all has_no_quote argument.value_names) short a.1 in
    let c = and_parts (passes_if_some is_ascii_alphanumeric argument.short) shorts b.1 in
    let d = and_parts (list_all is_ascii_alphanumeric argument.visible_short_aliases) hidden c.1 in
    let e = and_parts (list_all is_ascii_alphanumeric argument.short_aliases) long d.1 in
    let f = and_parts (passes_if_some is_plain_name argument.long) longs e.1 in
    let g = and_parts (list_all is_plain_name argument.visible_aliases) (list_all is_plain_name argument.aliases) f.1 in
    record {
      id = a.0;
      value_names = each_passes has_no_quote argument.value_names b.0;
      short = c.0;
      shorts = each_passes is_ascii_alphanumeric argument.visible_short_aliases d.0;
      hidden_shorts = each_passes is_ascii_alphanumeric argument.short_aliases e.0;
      long = f.0;
      longs = each_passes is_plain_name argument.visible_aliases g.0;
      hidden_longs = each_passes is_plain_name argument.aliases g.1;
    }

-- the names of a plain node, visible and hidden, and its arguments, also those of each kind
pub record IsPlainNode (node : Node) : Type 0 where
  pub names : AllByRecursion IsPlainName (visible_names node)
  pub hidden_names : AllByRecursion IsPlainName node.aliases
  pub arguments : AllByRecursion IsPlainArgument node.arguments
  pub options : AllByRecursion IsPlainArgument (options node)
  pub flags : AllByRecursion IsPlainArgument (flags node)

pub plain_node : (node : Node) → IsTrue (is_plain_node node) → IsPlainNode node
plain_node node h =
    let arguments = list_all is_plain_argument node.arguments in
    let aliases = list_all is_plain_name node.aliases && arguments in
    let a = and_parts (is_plain_name node.name) (list_all is_plain_name node.visible_aliases && aliases) h in
    let b = and_parts (list_all is_plain_name node.visible_aliases) aliases a.1 in
    let c = and_parts (list_all is_plain_name node.aliases) arguments b.1 in
    let each = AllByRecursion-weaker (λ argument. IsTrue (is_plain_argument argument)) IsPlainArgument plain_argument node.arguments (each_passes is_plain_argument node.arguments c.1) in
    record {
      names = (a.0, each_passes is_plain_name node.visible_aliases b.0);
      hidden_names = each_passes is_plain_name node.aliases c.0;
      arguments = each;
      options = AllByRecursion-filter IsPlainArgument is_option node.arguments each;
      flags = AllByRecursion-filter IsPlainArgument is_flag node.arguments each;
    }

-- a plain node with plain nodes below it, whose children have different names
pub record IsPlainBelow (tree : Tree) : Type 0 where
  pub node : IsTrue (is_plain_node tree.node)
  pub differ : IsTrue (siblings_differ tree.children)
  pub children : IsTrue (is_plain_forest tree.children)

-- the first of plain siblings, and those after it
pub record IsPlainMore (node : Node) (below rest : Forest) : Type 0 where
  pub first : IsPlainBelow (record { node = node; children = below })
  pub later : IsTrue (is_plain_forest rest)

pub plain_more : (node : Node) (below rest : Forest) → IsTrue (is_plain_forest (more node below rest)) → IsPlainMore node below rest
plain_more node below rest h =
    let a = and_parts (is_plain_node node) (siblings_differ below && (is_plain_forest below && is_plain_forest rest)) h in
    let b = and_parts (siblings_differ below) (is_plain_forest below && is_plain_forest rest) a.1 in
    let c = and_parts (is_plain_forest below) (is_plain_forest rest) b.1 in
    record { first = record { node = a.0; differ = b.0; children = c.0 }; later = c.1 }

-- each of some plain siblings is plain, with all nodes below it
pub plain_sibling : (forest : Forest) (child : Tree) → IsTrue (is_plain_forest forest) → IsSibling forest child → IsPlainBelow child
plain_sibling none child h sibling = absurd sibling
plain_sibling (more node below rest) child h (inl e) = subst IsPlainBelow e (plain_more node below rest h).first
plain_sibling (more node below rest) child h (inr sibling) = plain_sibling rest child (plain_more node below rest h).later sibling

-- the bin name of a plain tree, and its nodes
pub record IsPlainTree (tree : Tree) : Type 0 where
  pub bin_name : IsTrue (passes_if_some is_plain_name tree.node.bin_name)
  pub below : IsPlainBelow tree

pub plain_tree : (tree : Tree) → IsTrue (is_plain_tree tree) → IsPlainTree tree
plain_tree tree h =
    let a = and_parts (passes_if_some is_plain_name tree.node.bin_name) (is_plain_node tree.node && (siblings_differ tree.children && is_plain_forest tree.children)) h in
    let b = and_parts (is_plain_node tree.node) (siblings_differ tree.children && is_plain_forest tree.children) a.1 in
    let c = and_parts (siblings_differ tree.children) (is_plain_forest tree.children) b.1 in
    record { bin_name = a.0; below = record { node = b.0; differ = c.0; children = c.1 } }

-- the full name of a plain tree is a plain name
pub plain_full_name : (tree : Tree) → IsTrue (is_plain_tree tree) → IsPlainName (full_name tree.node)
plain_full_name tree h =
    let plain = plain_tree tree h in
    by_name tree.node.bin_name plain.bin_name (plain_node tree.node plain.below.node).names.0
  where
    by_name : (bin_name : Option (List ℕ)) → IsTrue (passes_if_some is_plain_name bin_name) → IsPlainName tree.node.name → IsPlainName (unwrap_or bin_name tree.node.name)
    by_name None p q = q
    by_name (Some name) p q = p
