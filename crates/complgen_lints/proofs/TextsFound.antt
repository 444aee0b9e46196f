-- Something is found in the names and descriptions of a command exactly if the command is not plain,
-- not quiet or not escaped.
use Rattle.std.proofs.Common.{◌≡◌, ◌∙◌, ap, ap₂, refl, ℕ, suc, Bool, true, false, not, cond, ◌&&◌, List, [], ◌∷◌, ◌++◌, Option, Some, None, is_none, unwrap_or, sym, ◌||◌, map, fold, is_some}
use Rattle.std.specs.Char.{is_ascii_alphanumeric}
use Rattle.std.specs.List.{list_all}
use Rattle.std.proofs.Math.Bool.{and-true, and_assoc, or_assoc}
use Rattle.std.proofs.lemmas.List.Folds.{list_all-append}
use Rattle.std.specs.Str.{bytes_eq}
use Rattle.std.specs.Cmp.Lexicographic.{nat_list_eq_equiv}
use Rattle.std.proofs.lemmas.List.{append_assoc, append-nil, map-append}
use Rattle.cc_arg.specs.declared.parts.ArgParts.{ArgParts as Arg}
use Rattle.cc_arg.specs.declared.possible_value.PossibleValue.{PossibleValue}
use Rattle.cc_arg.specs.Arguments.{possible_values}
use Rattle.cc_base.specs.PlainName.{is_plain_name}
use Rattle.cc_command.specs.declared.node.Node.{Node}
use Rattle.cc_command.specs.Escaped.{is_escaped_argument, is_escaped_node, is_escaped_text, unescaped_quote}
use Rattle.cc_command.specs.Plain.{has_no_quote, is_plain_argument, is_plain_node, passes_if_some, siblings_differ, all_differ, names_of_all, names_of as node_names}
use Rattle.cc_command.specs.Quiet.{are_quiet_values, is_quiet_argument, is_quiet_node, is_quiet_value}
use Rattle.cc_command.specs.Tree.{Tree, Forest, none, more}
use Rattle.cc_command.proofs.DifferentNames.{all_differ_append}
use Rattle.cc_command.specs.Names.{contains_name}
use Rattle.complgen_lints.specs.Parts.{label_parts, listed_short, listed_text, listed_shorts, listed_texts, long_parts, name_parts, short_parts, some_short, some_text, value_name, content_text, text_part}
use Rattle.complgen_lints.specs.SiblingNames.{taken_names, names_from, names_of}
use Rattle.complgen_lints.specs.TextLints.{argument_list, argument_parts, command_parts, is_label, part_premise, part_list, parts_list, quote_premise, some_finding, text_premise, text_list, unless_passes, unplain}
use Rattle.complgen_lints.specs.Lists.{each_from, is_nil}
use Rattle.complgen_lints.specs.declared.found.Spot.{Spot}
use Rattle.complgen_lints.specs.declared.found.Spot.TheVariants as spot
use Rattle.complgen_lints.specs.declared.parts.Part.{Part}
use Rattle.complgen_lints.specs.declared.place.Key.{Key}
use Rattle.complgen_lints.specs.declared.text_lints.TextLint.{TextLint}
use Rattle.complgen_lints.specs.declared.text_lints.TextLint.TheVariants as lint
use Rattle.complgen_lints.specs.declared.warning.Premise.{Premise}
use Rattle.complgen_lints.specs.declared.warning.Premise.TheVariants.{Quote, ShortNotPlain, LoudValue}
use Rattle.complgen_lints.specs.PlacedNames.{named_part, owner_with, taken_by, taken_from}
use Rattle.complgen_lints.specs.declared.names.PlacedName.{PlacedName}
use Rattle.complgen_lints.proofs.Walked.{each_only, nil_append}

-- the texts of some names
abbrev texts : List PlacedName → List (List ℕ)
texts names = map (λ name. name.name) names

some_kept : (same : Bool) (found : Option (List ℕ)) (command : List ℕ) →
    is_some (cond same (Some command) found) ≡ (is_some found || same)
some_kept true None command = refl
some_kept true (Some other) command = refl
some_kept false None command = refl
some_kept false (Some other) command = refl

found_some : (found : Option (List ℕ)) (names : List PlacedName) (word : List ℕ) →
    is_some (fold (λ found name. cond (bytes_eq name.name word) (Some name.owner) found) found names)
    ≡ (is_some found || contains_name (texts names) word)
found_some None [] word = refl
found_some (Some command) [] word = refl
found_some found (name ∷ names) word =
    let same = bytes_eq name.name word in
    found_some (cond same (Some name.owner) found) names word
    ∙ ap (λ b. b || contains_name (texts names) word) (some_kept same found name.owner)
    ∙ or_assoc (is_some found) same (contains_name (texts names) word)

-- a name has an owner exactly if it is among those before it
owner_some : (before : List PlacedName) (word : List ℕ) → is_some (owner_with before word) ≡ contains_name (texts before) word
owner_some before word = found_some None before word

by_none : (found : Option (List ℕ)) (name : PlacedName) → is_nil (taken_by found name) ≡ not (is_some found)
by_none None name = refl
by_none (Some command) name = refl

same_or_none : (same : Bool) (c : Bool) → (not (same || false) && not c) ≡ not (same || c)
same_or_none true c = refl
same_or_none false c = refl

none_is : (text : List ℕ) (before : List (List ℕ)) →
    list_all (λ name. not (contains_name (text ∷ []) name)) before ≡ not (contains_name before text)
none_is text [] = refl
none_is text (name ∷ before) =
    ap₂ (λ same rest. not (same || false) && rest) (nat_list_eq_equiv.symm text name) (none_is text before)
    ∙ same_or_none (bytes_eq name text) (contains_name before text)

one_more : (before : List (List ℕ)) (text : List ℕ) →
    all_differ (before ++ text ∷ []) ≡ (all_differ before && not (contains_name before text))
one_more before text =
    all_differ_append before (text ∷ [])
    ∙ ap (λ b. all_differ before && b) (and-true (list_all (λ name. not (contains_name (text ∷ []) name)) before) ∙ none_is text before)

-- nothing is found about names exactly if they differ from each other and from those before
taken_none : (before names : List PlacedName) →
    (all_differ (texts before) && is_nil (taken_from before names)) ≡ all_differ (texts (before ++ names))
taken_none before [] = and-true (all_differ (texts before)) ∙ ap (λ names. all_differ (texts names)) (sym (append-nil before))
taken_none before (name ∷ names) =
    let differ = all_differ (texts before) in
    let found = taken_by (owner_with before name.name) name in
    let more = taken_from (before ++ name ∷ []) names in
    ap (λ b. differ && b) (nil_append found more
    ∙ ap (λ b. b && is_nil more) (by_none (owner_with before name.name) name ∙ ap not (owner_some before name.name)))
    ∙ sym (and_assoc differ (not (contains_name (texts before) name.name)) (is_nil more))
    ∙ ap (λ b. b && is_nil more) (sym (one_more (texts before) name.name)
    ∙ ap all_differ (sym (map-append (λ name. name.name) before (name ∷ []))))
    ∙ taken_none (before ++ name ∷ []) names
    ∙ ap (λ names. all_differ (texts names)) (append_assoc before (name ∷ []) names)

-- the texts of parts that are names of one owner
part_texts : (index : ℕ) (owner : List ℕ) (parts others : List Part) →
    texts (map (named_part index owner) (parts ++ others)) ≡ texts (map (named_part index owner) parts) ++ texts (map (named_part index owner) others)
part_texts index owner [] others = refl
part_texts index owner (part ∷ parts) others = ap (λ rest. content_text part.content ∷ rest) (part_texts index owner parts others)

alias_texts : (child : ℕ) (key : Key) (command : List ℕ) (index : ℕ) (aliases : List (List ℕ)) →
    texts (map (named_part child command) (each_from (listed_text key) index aliases)) ≡ aliases
alias_texts child key command index [] = refl
alias_texts child key command index (alias ∷ aliases) = ap (λ others. alias ∷ others) (alias_texts child key command (suc index) aliases)

node_texts : (child : ℕ) (node : Node) → texts (names_of child node) ≡ node_names node
node_texts child node =
    let visible = listed_texts Key.VisibleAliases node.visible_aliases in
    part_texts child node.name (text_part Key.Name None node.name ∷ [] ++ visible) (listed_texts Key.Aliases node.aliases)
    ∙ ap₂ (λ shown hidden. node.name ∷ (shown ++ hidden))
    (alias_texts child Key.VisibleAliases node.name 0 node.visible_aliases)
    (alias_texts child Key.Aliases node.name 0 node.aliases)

forest_texts : (index : ℕ) (forest : Forest) → texts (names_from index forest) ≡ names_of_all forest
forest_texts index none = refl
forest_texts index (more node below rest) =
    map-append (λ name. name.name) (names_of index node) (names_from (suc index) rest)
    ∙ ap₂ (λ a b. a ++ b) (node_texts index node) (forest_texts (suc index) rest)

pub siblings_none : (children : Forest) → is_nil (taken_names children) ≡ siblings_differ children
unfolding siblings_differ
siblings_none children =
    taken_none [] (names_from 0 children) ∙ ap all_differ (forest_texts 0 children)

-- ---- a part, and some parts

abbrev passes : TextLint → Part → Bool
passes lint part = is_none (part_premise lint part)

finding_only : (spot : Spot) (key : Key) (item : Option ℕ) (premise : Option Premise) →
    is_nil (some_finding spot key item premise) ≡ is_none premise
finding_only spot key item None = refl
finding_only spot key item (Some premise) = refl

parts_only : (lint : TextLint) (spot : Spot) (parts : List Part) → is_nil (parts_list lint spot parts) ≡ list_all (passes lint) parts
parts_only lint spot [] = refl
parts_only lint spot (part ∷ parts) =
    nil_append (part_list lint spot part) (parts_list lint spot parts)
    ∙ ap₂ (λ a b. a && b) (finding_only spot part.key part.item (part_premise lint part)) (parts_only lint spot parts)

none_unless : (test : Bool) (premise : Premise) → is_none (unless_passes test premise) ≡ test
none_unless true premise = refl
none_unless false premise = refl

-- the result of a test of texts for the part of an optional text, and for the parts of a list
module _ (lint : TextLint) (key : Key) (test : List ℕ → Bool) (same : (text : List ℕ) → is_none (text_premise lint key text) ≡ test text) where
  some_text_passes : (text : Option (List ℕ)) → list_all (passes lint) (some_text key None text) ≡ passes_if_some test text
  some_text_passes None = refl
  some_text_passes (Some text) = ap (λ b. b && true) (same text) ∙ and-true (test text)

  texts_pass : (index : ℕ) (texts : List (List ℕ)) → list_all (passes lint) (each_from (listed_text key) index texts) ≡ list_all test texts
  texts_pass index [] = refl
  texts_pass index (text ∷ texts) = ap₂ (λ a b. a && b) (same text) (texts_pass (suc index) texts)

some_short_passes : (key : Key) (short : Option ℕ) → list_all (passes lint.Plain) (some_short key short) ≡ passes_if_some is_ascii_alphanumeric short
some_short_passes key None = refl
some_short_passes key (Some short) =
    ap (λ b. b && true) (none_unless (is_ascii_alphanumeric short) (ShortNotPlain short)) ∙ and-true (is_ascii_alphanumeric short)

shorts_pass : (key : Key) (index : ℕ) (shorts : List ℕ) →
    list_all (passes lint.Plain) (each_from (listed_short key) index shorts) ≡ list_all is_ascii_alphanumeric shorts
shorts_pass key index [] = refl
shorts_pass key index (short ∷ shorts) =
    ap₂ (λ a b. a && b) (none_unless (is_ascii_alphanumeric short) (ShortNotPlain short)) (shorts_pass key (suc index) shorts)

-- three lists of parts pass together if each passes
three_pass : (lint : TextLint) (some others last : List Part) → list_all (passes lint) ((some ++ others) ++ last)
    ≡ ((list_all (passes lint) some && list_all (passes lint) others) && list_all (passes lint) last)
three_pass lint some others last =
    list_all-append (passes lint) (some ++ others) last
    ∙ ap (λ b. b && list_all (passes lint) last) (list_all-append (passes lint) some others)

-- ---- plain names

plain_same : (key : Key) → is_label key ≡ false → (text : List ℕ) → is_none (text_premise lint.Plain key text) ≡ is_plain_name text
plain_same key h text =
    ap (λ label. is_none (cond label (unless_passes (has_no_quote text) Quote) (unless_passes (is_plain_name text) (unplain key text)))) h
    ∙ none_unless (is_plain_name text) (unplain key text)

label_same : (key : Key) → is_label key ≡ true → (text : List ℕ) → is_none (text_premise lint.Plain key text) ≡ has_no_quote text
label_same key h text =
    ap (λ label. is_none (cond label (unless_passes (has_no_quote text) Quote) (unless_passes (is_plain_name text) (unplain key text)))) h
    ∙ none_unless (has_no_quote text) Quote

-- a name, and its aliases
names_pass : (node : Node) → list_all (passes lint.Plain) (name_parts node)
    ≡ ((is_plain_name node.name && list_all is_plain_name node.visible_aliases) && list_all is_plain_name node.aliases)
names_pass node =
    let visible = listed_texts Key.VisibleAliases node.visible_aliases in
    three_pass lint.Plain (some_text Key.Name None (Some node.name)) visible (listed_texts Key.Aliases node.aliases)
    ∙ ap₂ (λ a b. a && b)
    (ap₂ (λ a b. a && b) (some_text_passes lint.Plain Key.Name is_plain_name (plain_same Key.Name refl) (Some node.name))
    (texts_pass lint.Plain Key.VisibleAliases is_plain_name (plain_same Key.VisibleAliases refl) 0 node.visible_aliases))
    (texts_pass lint.Plain Key.Aliases is_plain_name (plain_same Key.Aliases refl) 0 node.aliases)

longs_pass : (argument : Arg) → list_all (passes lint.Plain) (long_parts argument)
    ≡ ((passes_if_some is_plain_name argument.long && list_all is_plain_name argument.visible_aliases) && list_all is_plain_name argument.aliases)
longs_pass argument =
    let visible = listed_texts Key.VisibleAliases argument.visible_aliases in
    three_pass lint.Plain (some_text Key.Long None argument.long) visible (listed_texts Key.Aliases argument.aliases)
    ∙ ap₂ (λ a b. a && b)
    (ap₂ (λ a b. a && b) (some_text_passes lint.Plain Key.Long is_plain_name (plain_same Key.Long refl) argument.long)
    (texts_pass lint.Plain Key.VisibleAliases is_plain_name (plain_same Key.VisibleAliases refl) 0 argument.visible_aliases))
    (texts_pass lint.Plain Key.Aliases is_plain_name (plain_same Key.Aliases refl) 0 argument.aliases)

all_shorts_pass : (argument : Arg) → list_all (passes lint.Plain) (short_parts argument)
    ≡ ((passes_if_some is_ascii_alphanumeric argument.short && list_all is_ascii_alphanumeric argument.visible_short_aliases)
    && list_all is_ascii_alphanumeric argument.short_aliases)
all_shorts_pass argument =
    let visible = listed_shorts Key.VisibleShortAliases argument.visible_short_aliases in
    three_pass lint.Plain (some_short Key.Short argument.short) visible (listed_shorts Key.ShortAliases argument.short_aliases)
    ∙ ap₂ (λ a b. a && b)
    (ap₂ (λ a b. a && b) (some_short_passes Key.Short argument.short)
    (shorts_pass Key.VisibleShortAliases 0 argument.visible_short_aliases))
    (shorts_pass Key.ShortAliases 0 argument.short_aliases)

labels_pass : (argument : Arg) → list_all (passes lint.Plain) (label_parts argument)
    ≡ (has_no_quote argument.id && list_all has_no_quote argument.value_names)
labels_pass argument =
    ap₂ (λ a b. a && b) (label_same Key.Id refl argument.id)
    (texts_pass lint.Plain Key.ValueNames has_no_quote (label_same Key.ValueNames refl) 0 argument.value_names)

-- the tests of an argument are the same in groups and in a row
in_a_row : (a b c d e f g h : Bool) →
    (((a && b) && ((c && d) && e)) && ((f && g) && h)) ≡ (a && (b && (c && (d && (e && (f && (g && h)))))))
in_a_row false b c d e f g h = refl
in_a_row true false c d e f g h = refl
in_a_row true true false d e f g h = refl
in_a_row true true true false e f g h = refl
in_a_row true true true true false f g h = refl
in_a_row true true true true true false g h = refl
in_a_row true true true true true true false h = refl
in_a_row true true true true true true true h = refl

plain_argument : (index : ℕ) (argument : Arg) → is_nil (argument_list lint.Plain index argument) ≡ is_plain_argument argument
plain_argument index argument =
    parts_only lint.Plain (spot.Argument index) (argument_parts lint.Plain argument)
    ∙ three_pass lint.Plain (label_parts argument) (short_parts argument) (long_parts argument)
    ∙ ap₂ (λ a b. a && b) (ap₂ (λ a b. a && b) (labels_pass argument) (all_shorts_pass argument)) (longs_pass argument)
    ∙ in_a_row (has_no_quote argument.id) (list_all has_no_quote argument.value_names)
    (passes_if_some is_ascii_alphanumeric argument.short) (list_all is_ascii_alphanumeric argument.visible_short_aliases)
    (list_all is_ascii_alphanumeric argument.short_aliases)
    (passes_if_some is_plain_name argument.long) (list_all is_plain_name argument.visible_aliases) (list_all is_plain_name argument.aliases)

-- the tests of a command: its names are plain, and the names of its subcommands differ
abbrev pub plain_test : Tree → Bool
plain_test tree = is_plain_node tree.node && siblings_differ tree.children

of_command : (a b c d e : Bool) → ((((a && b) && c) && d) && e) ≡ ((a && (b && (c && d))) && e)
of_command false b c d e = refl
of_command true false c d e = refl
of_command true true c d e = refl

pub plain_command : (tree : Tree) → is_nil (text_list lint.Plain tree ++ taken_names tree.children) ≡ plain_test tree
plain_command tree =
    let node = tree.node in
    let names = parts_list lint.Plain spot.Command (command_parts lint.Plain node) in
    let arguments = each_from (argument_list lint.Plain) 0 node.arguments in
    nil_append (names ++ arguments) (taken_names tree.children)
    ∙ ap₂ (λ a b. a && b)
    (nil_append names arguments
    ∙ ap₂ (λ a b. a && b) (parts_only lint.Plain spot.Command (name_parts node) ∙ names_pass node)
    (each_only (argument_list lint.Plain) is_plain_argument plain_argument 0 node.arguments))
    (siblings_none tree.children)
    ∙ of_command (is_plain_name node.name) (list_all is_plain_name node.visible_aliases) (list_all is_plain_name node.aliases)
    (list_all is_plain_argument node.arguments) (siblings_differ tree.children)

-- ---- quiet values

quiet_same : (key : Key) (text : List ℕ) → is_none (text_premise lint.Quiet key text) ≡ is_quiet_value text
quiet_same key text = none_unless (is_quiet_value text) (LoudValue text)

values_pass : (index : ℕ) (values : List PossibleValue) →
    list_all (passes lint.Quiet) (each_from value_name index values) ≡ list_all (λ value. is_quiet_value value.name) values
values_pass index [] = refl
values_pass index (value ∷ values) = ap₂ (λ a b. a && b) (quiet_same Key.PossibleValues value.name) (values_pass (suc index) values)

some_values_pass : (values : Option (List PossibleValue)) →
    list_all (passes lint.Quiet) (each_from value_name 0 (unwrap_or values [])) ≡ are_quiet_values values
some_values_pass None = refl
some_values_pass (Some values) = values_pass 0 values

quiet_argument : (index : ℕ) (argument : Arg) → is_nil (argument_list lint.Quiet index argument) ≡ is_quiet_argument argument
quiet_argument index argument =
    parts_only lint.Quiet (spot.Argument index) (argument_parts lint.Quiet argument)
    ∙ some_values_pass (possible_values argument)

pub quiet_command : (tree : Tree) → is_nil (text_list lint.Quiet tree) ≡ is_quiet_node tree.node
quiet_command tree = each_only (argument_list lint.Quiet) is_quiet_argument quiet_argument 0 tree.node.arguments

-- ---- quotes

quote_none : (quote : Option ℕ) → is_none (quote_premise quote) ≡ is_none quote
quote_none None = refl
quote_none (Some quote) = refl

quotes_same : (key : Key) (text : List ℕ) → is_none (text_premise lint.Quotes key text) ≡ is_escaped_text text
quotes_same key text = quote_none (unescaped_quote text)

escaped_argument : (index : ℕ) (argument : Arg) → is_nil (argument_list lint.Quotes index argument) ≡ is_escaped_argument argument
escaped_argument index argument =
    parts_only lint.Quotes (spot.Argument index) (some_text Key.Help None argument.help)
    ∙ some_text_passes lint.Quotes Key.Help is_escaped_text (quotes_same Key.Help) argument.help

pub escaped_command : (tree : Tree) → is_nil (text_list lint.Quotes tree) ≡ is_escaped_node tree.node
escaped_command tree =
    let about = some_text Key.About None tree.node.about in
    nil_append (parts_list lint.Quotes spot.Command about) (each_from (argument_list lint.Quotes) 0 tree.node.arguments)
    ∙ ap₂ (λ a b. a && b)
    (parts_only lint.Quotes spot.Command about
    ∙ some_text_passes lint.Quotes Key.About is_escaped_text (quotes_same Key.About) tree.node.about)
    (each_only (argument_list lint.Quotes) is_escaped_argument escaped_argument 0 tree.node.arguments)
