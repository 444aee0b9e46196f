-- A plain and built tree is readable, node by node and function by function.
use Rattle.std.proofs.Common.{◌≡◌, ◌==◌, ◌&&◌, ◌||◌, ℕ, suc, Bool, true, false, cond, IsTrue, List, [], ◌∷◌, ◌++◌, map, Option, Some, None, codes, refl, sym, ◌∙◌, ap, subst, inl, inr, ◌⊎◌, arith}
use Rattle.std.specs.Char.{is_ascii_alphanumeric}
use Rattle.std.specs.List.{AllByRecursion}
use Rattle.std.proofs.lemmas.Bool.Decides.{nat_tests}
use Rattle.cc_base.specs.Bytes.{dash, single_quote, underscore}
use Rattle.cc_base.specs.Sorting.{in_order}
use Rattle.cc_base.proofs.Members.{AllByRecursion-weaker, AllByRecursion-append, AllByRecursion-map}
use Rattle.cc_base.proofs.Sorted.{AllByRecursion-in_order}
use Rattle.cc_arg.specs.declared.parts.ArgParts.{ArgParts as Arg}
use Rattle.cc_command.specs.declared.node.Node.{Node}
use Rattle.cc_command.specs.Built.{built_forest, built_tree, propagated}
use Rattle.cc_command.specs.Generated.{copies, help_command, help_child, needs_help_child}
use Rattle.cc_command.specs.Texts.{help_name}
use Rattle.cc_command.specs.Names.{full_name, joined_name, visible_names}
use Rattle.cc_command.specs.Plain.{is_plain_forest, is_plain_tree}
use Rattle.cc_command.specs.Tree.{Forest, none, more, join, Tree}
use Rattle.cc_base.specs.PlainName.{is_joined, is_plain_name}
use Rattle.cc_base.proofs.PlainNames.{plain_after, plain_after_start, plain_after_more}
use Rattle.cc_command.proofs.PlainParts.{IsPlainName, IsPlainArgument, IsPlainNode, plain_node, plain_more, plain_tree, plain_full_name}
use Rattle.cc_zsh.specs.Functions.{Function, entry, entries_of, function_of, functions_below, function_below, is_again, once_after, sorted_functions}
use Rattle.cc_zsh.specs.Reader.{is_name_byte}
use Rattle.cc_zsh.proofs.Cutting.{NoQuote}
use Rattle.cc_zsh.proofs.OptionWords.{AreNameBytes, name_byte-differs}
use Rattle.cc_zsh.proofs.PlainNames.{plain_name_bytes}
use Rattle.cc_zsh.proofs.BlockRead.{AreFullBytes, label_bytes}
use Rattle.cc_zsh.proofs.ArmsRead.{AreReadable}
use Rattle.cc_zsh.proofs.FunctionsRead.{IsFunction}
use Rattle.cc_zsh.proofs.WholeRead.{IsBinName, IsReadableTree}

-- ---- full names in a built tree

-- each node of a forest is named after its parent
abbrev pub IsNamed : List ℕ → Forest → Type 0
IsNamed parent none = Unit {0}
IsNamed parent (more node below rest) =
    (full_name node ≡ joined_name parent node.name)
    × (IsNamed (full_name node) below × IsNamed parent rest)

named_join : (parent : List ℕ) (first later : Forest) → IsNamed parent first →
    IsNamed parent later → IsNamed parent (join first later)
named_join parent none later h k = k
named_join parent (more node below rest) later h k = (h.0, (h.1.0, named_join parent rest later h.1.1 k))

named_copies : (parent : List ℕ) (position : ℕ) (forest : Forest) →
    IsNamed parent (copies parent position forest)
named_copies parent position none = tt
named_copies parent position (more node below rest) =
    (refl, (named_copies (joined_name parent node.name) 0 below, named_copies parent (suc position) rest))

named_help_child : (parent : List ℕ) (node : Node) (children : Forest) →
    IsNamed parent (help_child parent node children)
named_help_child parent node children = by_test (needs_help_child node children)
  where
    help : List ℕ
    help = joined_name parent help_name

    by_test : (b : Bool) → IsNamed parent (cond b
        (help_command parent (join (copies help 0 children) (help_command help none))) none)
    by_test true = (
      refl,
      (
        named_join help (copies help 0 children) (help_command help none)
            (named_copies help 0 children) (refl, (tt, tt)),
        tt,
      ),
    )
    by_test false = tt

named_built : (inherited : List Arg) (parent : List ℕ) (forest : Forest) →
    IsNamed parent (built_forest inherited parent forest)
named_built inherited parent none = tt
named_built inherited parent (more node below rest) = (
  refl,
  (
    named_join (joined_name parent node.name)
        (built_forest (propagated inherited node) (joined_name parent node.name) below)
        (help_child (joined_name parent node.name) node below)
        (named_built (propagated inherited node) (joined_name parent node.name) below)
        (named_help_child (joined_name parent node.name) node below),
    named_built inherited parent rest,
  ),
)

pub named_tree : (root : Tree) → built_tree root ≡ root → IsNamed (full_name root.node) root.children
named_tree root e = subst (λ forest. IsNamed (full_name root.node) forest) (ap (λ tree. tree.children) e)
    (named_join (full_name root.node)
    (built_forest (propagated [] root.node) (full_name root.node) root.children)
    (help_child (full_name root.node) root.node root.children)
    (named_built (propagated [] root.node) (full_name root.node) root.children)
    (named_help_child (full_name root.node) root.node root.children))

-- ---- bytes of full names

full_of : (name : List ℕ) → AreNameBytes name → AreFullBytes name
full_of name h = AllByRecursion-weaker (λ byte. is_name_byte byte ≡ true)
    (λ byte. (is_name_byte byte ≡ true) ⊎ (byte ≡ 32)) (λ byte k. inl k) name h

full_joined : (parent name : List ℕ) → AreFullBytes parent → AreNameBytes name →
    AreFullBytes (joined_name parent name)
full_joined parent name h k =
    AllByRecursion-append (λ byte. (is_name_byte byte ≡ true) ⊎ (byte ≡ 32)) (parent ++ codes " ") name
    (AllByRecursion-append (λ byte. (is_name_byte byte ≡ true) ⊎ (byte ≡ 32)) parent (codes " ") h
    (inr refl, tt)) (full_of name k)

full_no_quote : (name : List ℕ) → AreFullBytes name → NoQuote name
full_no_quote name h = AllByRecursion-weaker (λ byte. (is_name_byte byte ≡ true) ⊎ (byte ≡ 32))
    (λ byte. byte == single_quote ≡ false) one name h
  where
    one : (byte : ℕ) → (is_name_byte byte ≡ true) ⊎ (byte ≡ 32) → byte == single_quote ≡ false
    one byte (inl k) = name_byte-differs single_quote byte refl k
    one byte (inr e) = ap (λ b. b == single_quote) e

-- ---- nodes and functions

child_full : (parent : List ℕ) (node : Node) → full_name node ≡ joined_name parent node.name →
    AreFullBytes parent → IsPlainNode node → AreFullBytes (full_name node)
child_full parent node e h is =
    subst AreFullBytes (sym e) (full_joined parent node.name h (plain_name_bytes node.name is.names.0))

readable_forest : (above : Node) (parent : List ℕ) (forest : Forest) →
    AllByRecursion IsPlainArgument above.arguments → AreFullBytes parent → IsNamed parent forest →
    IsTrue (is_plain_forest forest) → AreReadable above forest
readable_forest above parent none plain full named h = tt
readable_forest above parent (more node below rest) plain full named h =
    let parts = plain_more node below rest h in
    let is = plain_node node parts.first.node in
    let whole = child_full parent node named.0 full is in (
      record { above_plain = plain; plain = is; full = whole },
      (
        readable_forest node (full_name node) below is.arguments whole named.1.0 parts.first.children,
        readable_forest above parent rest plain full named.1.1 parts.later,
      ),
    )

entry_words : (children : Forest) → IsTrue (is_plain_forest children) →
    AllByRecursion (λ e. AreNameBytes e.word) (entries_of children)
entry_words none h = tt
entry_words (more node below rest) h =
    let parts = plain_more node below rest h in
    AllByRecursion-append (λ e. AreNameBytes e.word) (map (entry node) (visible_names node)) (entries_of rest)
    (AllByRecursion-map (λ e. AreNameBytes e.word) (entry node) (visible_names node)
    (AllByRecursion-weaker IsPlainName AreNameBytes plain_name_bytes (visible_names node)
    (plain_node node parts.first.node).names))
    (entry_words rest parts.later)

is_function : (node : Node) (children : Forest) → AreFullBytes (full_name node) →
    IsTrue (is_plain_forest children) → IsFunction (function_of node children)
is_function node children full h = record {
  label = label_bytes (full_name node) full;
  name = full_no_quote (full_name node) full;
  words = entry_words children h;
}

functions_of : (parent : List ℕ) (forest : Forest) → AreFullBytes parent → IsNamed parent forest →
    IsTrue (is_plain_forest forest) → AllByRecursion IsFunction (functions_below forest)
functions_of parent none full named h = tt
functions_of parent (more node below rest) full named h =
    let parts = plain_more node below rest h in
    let is = plain_node node parts.first.node in
    let whole = child_full parent node named.0 full is in (
      is_function node below whole parts.first.children,
      AllByRecursion-append IsFunction (functions_below below) (functions_below rest)
          (functions_of (full_name node) below whole named.1.0 parts.first.children)
          (functions_of parent rest full named.1.1 parts.later),
    )

once_each : (P : Function → Type 0) (last : Option (List ℕ)) (functions : List Function) →
    AllByRecursion P functions → AllByRecursion P (once_after last functions)
once_each P last [] h = tt
once_each P last (function ∷ functions) (h, hs) = by_test (is_again last function.name)
    (once_each P last functions hs) (once_each P (Some function.name) functions hs)
  where
    by_test : (b : Bool) → AllByRecursion P (once_after last functions) →
        AllByRecursion P (once_after (Some function.name) functions) →
        AllByRecursion P (cond b (once_after last functions)
        (function ∷ once_after (Some function.name) functions))
    by_test true k l = k
    by_test false k l = (h, l)

-- ---- the root

letter_first : (byte : ℕ) → is_ascii_alphanumeric byte ≡ true → byte == underscore ≡ false
letter_first byte h = grind (arith, nat_tests)

bin_name_is : (name : List ℕ) → IsPlainName name → IsBinName name
unfolding is_plain_name is_joined
bin_name_is [] h = cc
bin_name_is (byte ∷ name) h = record {
  first = byte;
  rest = name;
  whole = refl;
  bytes = plain_name_bytes (byte ∷ name) h;
  no_underscore = letter_first byte (first_letter (is_ascii_alphanumeric byte) refl
      (sym (plain_after_more false byte name) ∙ plain_after_start (byte ∷ name) ∙ h));
}
  where
    first_letter : (a : Bool) → is_ascii_alphanumeric byte ≡ a →
        ((is_ascii_alphanumeric byte || (false && (byte == dash || byte == underscore)))
        && plain_after (is_ascii_alphanumeric byte) name) ≡ true → is_ascii_alphanumeric byte ≡ true
    first_letter true e k = e
    first_letter false e k =
        let none : false ≡ true = sym (ap (λ b. (b || (false && (byte == dash || byte == underscore)))
        && plain_after (is_ascii_alphanumeric byte) name) e) ∙ k in cc

pub readable_tree : (root : Tree) → IsTrue (is_plain_tree root) → built_tree root ≡ root →
    IsReadableTree root
unfolding sorted_functions
readable_tree root h built =
    let name = plain_full_name root h in
    let plain = (plain_tree root h).below in
    let is = plain_node root.node plain.node in
    let bytes = plain_name_bytes (full_name root.node) name in
    let full = full_of (full_name root.node) bytes in
    let named = named_tree root built in
    record {
      bin = bin_name_is (full_name root.node) name;
      bin_bytes = bytes;
      node = record { above_plain = is.arguments; plain = is; full = full };
      below = readable_forest root.node (full_name root.node) root.children is.arguments full named plain.children;
      functions = (
        is_function root.node root.children full plain.children,
        once_each IsFunction None (in_order function_below (functions_below root.children))
            (AllByRecursion-in_order function_below IsFunction (functions_below root.children)
            (functions_of (full_name root.node) root.children full named plain.children)),
      );
    }
