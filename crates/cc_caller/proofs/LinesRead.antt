-- The word list of a plain command reads back to its longs.
use Rattle.std.proofs.Common.{◌≡◌, ◌≢◌, ◌∙◌, ap, refl, inl, inr, ℕ, Bool, true, false, ◌==◌, ◌&&◌, IsTrue, List, [], ◌∷◌, ◌++◌, Option, Some, None, codes, flat_map, map}
use Rattle.std.specs.Char.{is_ascii_alphanumeric}
use Rattle.std.specs.List.{AllByRecursion, list_all}
use Rattle.std.proofs.lemmas.Bool.Decides.{eqb_tells}
use Rattle.clap_complete.specs.cc_arg.declared.parts.ArgParts.{ArgParts as Arg}
use Rattle.clap_complete.specs.cc_generator.ArgumentNames.{aliases_then, all_longs, long_word}
use Rattle.clap_complete.specs.cc_command.Plain.{has_no_quote, is_plain_argument, is_plain_forest, is_plain_node, is_plain_tree, passes_if_some, siblings_differ}
use Rattle.clap_complete.specs.cc_base.PlainName.{NameByte, letter, joiner, foreign, name_byte, is_joined, is_plain_name}
use Rattle.clap_complete.specs.cc_command.declared.node.Node.{Node}
use Rattle.clap_complete.specs.cc_command.Tree.{Tree}
use Rattle.cc_caller.specs.WordList.{IsOneLine, ListsLongs, line, lines_of, with_byte}

-- A PLAIN NAME HAS NO LINE FEED

line_feed_foreign : name_byte 10 ≡ foreign
unfolding name_byte
line_feed_foreign = refl

no_line_feed : (byte : ℕ) → name_byte byte ≢ foreign → (byte == 10) ≡ false
no_line_feed byte h =
    elim (eqb_tells byte 10) [ inl same ↦ absurd (h (ap name_byte same.1 ∙ line_feed_foreign)) | inr differs ↦ differs.0 ]

none_foreign : (bytes : List NameByte) → IsTrue (is_joined bytes) → AllByRecursion (λ byte. byte ≢ foreign) bytes
unfolding is_joined
none_foreign [] h = cc
none_foreign (letter ∷ []) h = (λ e. cc, tt)
none_foreign (letter ∷ letter ∷ bytes) h = (λ e. cc, none_foreign (letter ∷ bytes) h)
none_foreign (letter ∷ joiner ∷ bytes) h = (λ e. cc, (λ e. cc, none_foreign bytes h))
none_foreign (letter ∷ foreign ∷ bytes) h = cc
none_foreign (joiner ∷ bytes) h = cc
none_foreign (foreign ∷ bytes) h = cc

of_kinds : (name : List ℕ) → AllByRecursion (λ byte. byte ≢ foreign) (map name_byte name) → IsOneLine name
of_kinds [] h = tt
of_kinds (byte ∷ name) h = (no_line_feed byte h.0, of_kinds name h.1)

name_line : (name : List ℕ) → IsTrue (is_plain_name name) → IsOneLine name
unfolding is_plain_name
name_line name h = of_kinds name (none_foreign (map name_byte name) h)

-- LINES

-- such a text before a line feed is read as one line
pub one_line : (text rest : List ℕ) → IsOneLine text → lines_of ((text ++ codes "\n") ++ rest) ≡ text ∷ lines_of rest
one_line [] rest h = refl
one_line (byte ∷ text) rest h = rw h.0 (ap (with_byte byte) (one_line text rest h.1))

-- each is a plain name
abbrev ArePlain : List (List ℕ) → Type 0
ArePlain names = AllByRecursion (λ name. IsTrue (is_plain_name name)) names

each_line : (longs : List (List ℕ)) → ArePlain longs → lines_of (flat_map line longs) ≡ map long_word longs
each_line [] h = refl
each_line (long ∷ longs) h =
    one_line (long_word long) (flat_map line longs) (refl, (refl, name_line long h.0))
    ∙ ap (λ lines. long_word long ∷ lines) (each_line longs h.1)

-- THE LONGS OF A PLAIN COMMAND

right : (a b : Bool) → IsTrue (a && b) → IsTrue b
right true b h = h
right false b h = cc

left : (a b : Bool) → IsTrue (a && b) → IsTrue a
left true b h = refl
left false b h = cc

plain_append : (one other : List (List ℕ)) → ArePlain one → ArePlain other → ArePlain (one ++ other)
plain_append [] other h k = k
plain_append (name ∷ one) other h k = (h.0, plain_append one other h.1 k)

each_plain : (names : List (List ℕ)) → IsTrue (list_all is_plain_name names) → ArePlain names
each_plain [] h = tt
each_plain (name ∷ names) h =
    (left (is_plain_name name) (list_all is_plain_name names) h, each_plain names (right (is_plain_name name) (list_all is_plain_name names) h))

plain_aliases : (long : Option (List ℕ)) (aliases : List (List ℕ)) → IsTrue (passes_if_some is_plain_name long) → ArePlain aliases → ArePlain (aliases_then aliases long)
plain_aliases None aliases h k = tt
plain_aliases (Some long) aliases h k = plain_append aliases (long ∷ []) k (h, tt)

plain_argument : (argument : Arg) → IsTrue (is_plain_argument argument) → ArePlain (aliases_then argument.visible_aliases argument.long)
plain_argument argument h =
    let hidden = list_all is_plain_name argument.aliases in
    let shown = list_all is_plain_name argument.visible_aliases in
    let longs = passes_if_some is_plain_name argument.long && (shown && hidden) in
    let last = list_all is_ascii_alphanumeric argument.short_aliases && longs in
    let shorts = list_all is_ascii_alphanumeric argument.visible_short_aliases && last in
    let short = passes_if_some is_ascii_alphanumeric argument.short && shorts in
    let names = list_all has_no_quote argument.value_names && short in
    let at_short = right (list_all has_no_quote argument.value_names) short (right (has_no_quote argument.id) names h) in
    let at_last = right (list_all is_ascii_alphanumeric argument.visible_short_aliases) last (right (passes_if_some is_ascii_alphanumeric argument.short) shorts at_short) in
    let at_longs = right (list_all is_ascii_alphanumeric argument.short_aliases) longs at_last in
    let at_shown = right (passes_if_some is_plain_name argument.long) (shown && hidden) at_longs in
    plain_aliases argument.long argument.visible_aliases (left (passes_if_some is_plain_name argument.long) (shown && hidden) at_longs) (each_plain argument.visible_aliases (left shown hidden at_shown))

plain_longs : (arguments : List Arg) → IsTrue (list_all is_plain_argument arguments) → ArePlain (all_longs arguments)
unfolding all_longs
plain_longs [] h = tt
plain_longs (argument ∷ arguments) h =
    plain_append (aliases_then argument.visible_aliases argument.long) (all_longs arguments)
    (plain_argument argument (left (is_plain_argument argument) (list_all is_plain_argument arguments) h))
    (plain_longs arguments (right (is_plain_argument argument) (list_all is_plain_argument arguments) h))

plain_node : (node : Node) → IsTrue (is_plain_node node) → IsTrue (list_all is_plain_argument node.arguments)
plain_node node h =
    let arguments = list_all is_plain_argument node.arguments in
    let hidden = list_all is_plain_name node.aliases && arguments in
    let shown = list_all is_plain_name node.visible_aliases && hidden in
    right (list_all is_plain_name node.aliases) arguments (right (list_all is_plain_name node.visible_aliases) hidden (right (is_plain_name node.name) shown h))

pub lists_longs : (tree : Tree) → IsTrue (is_plain_tree tree) → ListsLongs tree
lists_longs tree h =
    let below = siblings_differ tree.children && is_plain_forest tree.children in
    let node = right (passes_if_some is_plain_name tree.node.bin_name) (is_plain_node tree.node && below) h in
    each_line (all_longs tree.node.arguments) (plain_longs tree.node.arguments (plain_node tree.node (left (is_plain_node tree.node) below node)))
