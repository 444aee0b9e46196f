-- The arms of a plain tree with quiet values are readable.
use Rattle.std.proofs.Common.{◌≡◌, ◌==◌, ◌||◌, ℕ, Bool, false, IsTrue, List, [], ◌∷◌, ◌++◌, flat_map, map, filter, not, codes, encode_utf8, Option, Some, None, unwrap_or, refl, sym, subst, arith}
use Rattle.std.specs.Prelude.{bytes_eq}
use Rattle.std.specs.Char.{is_ascii_alphanumeric}
use Rattle.std.specs.List.{AllByRecursion}
use Rattle.std.proofs.lemmas.Bool.Decides.{nat_tests}
use Rattle.std.proofs.lemmas.Str.{encode_ascii}
use Rattle.std.proofs.lemmas.Bool.{or_left}
use Rattle.cc_arg.specs.declared.parts.ArgParts.{ArgParts as Arg}
use Rattle.cc_arg.specs.declared.possible_value.PossibleValue.{PossibleValue}
use Rattle.cc_arg.specs.declared.value_hint.ValueHint.{ValueHint}
use Rattle.cc_arg.specs.declared.value_hint.ValueHint.TheVariants.{Unknown}
use Rattle.cc_arg.specs.Arguments.{is_positional, possible_values}
use Rattle.cc_arg.specs.ShownNames.{shown_longs, shown_shorts, with_aliases}
use Rattle.cc_base.specs.Bytes.{dash, underscore}
use Rattle.cc_base.proofs.Booleans.{each_passes}
use Rattle.cc_base.proofs.Members.{AllByRecursion-both, AllByRecursion-weaker, AllByRecursion-append, AllByRecursion-map, AllByRecursion-flat_map, AllByRecursion-filter}
use Rattle.cc_command.specs.declared.node.Node.{Node}
use Rattle.cc_command.specs.ArgumentLists.{is_option, options, positionals}
use Rattle.cc_command.specs.Names.{visible_names}
use Rattle.cc_command.specs.Plain.{is_plain_forest, is_plain_node, passes_if_some}
use Rattle.cc_base.specs.PlainName.{is_plain_name}
use Rattle.cc_command.specs.Tree.{Forest, none, more, Tree}
use Rattle.cc_command.proofs.PlainParts.{IsPlainName, IsPlainShort, IsPlainArgument, IsPlainBelow, plain_node, plain_more}
use Rattle.cc_generator.specs.ArgumentNames.{aliases_then, long_word, short_word}
use Rattle.cc_quote.proofs.PosixCutting.{IsWord}
use Rattle.cc_generator.specs.Subcommands.{sibling_names}
use Rattle.cc_bash.specs.Arms.{arm_of, detail_of, details_at, long_words, names_of_shown, names_of_values, offered_by, offered_for, option_details, option_words, short_words, value_names, words_at}
use Rattle.cc_command.specs.Quiet.{are_quiet_values, is_quiet_argument, is_quiet_node, is_quiet_value}
use Rattle.cc_bash.proofs.PlainBytes.{IsPlainByte, IsPlainText, bytes_of, no_paren_of, plain_text, quiet_word, word_byte_plain, word_of}
use Rattle.cc_quote.proofs.Digits.{decimal_word}
use Rattle.cc_bash.proofs.ReadsArms.{IsReadableArm}
use Rattle.cc_bash.proofs.ReadsDetails.{IsReadableDetail, IsReadableOffer}

-- ---- names as a user types them

encoded_short : (short : ℕ) → IsPlainShort short → short ∷ [] ≡ encode_utf8 short
encoded_short short h = sym (encode_ascii short (grind (arith, nat_tests)))

-- a word other than `*`
abbrev IsTyped : List ℕ → Type 0
IsTyped word = IsPlainText word × (bytes_eq word (codes "*") ≡ false)

dash_plain : IsPlainByte dash
dash_plain = word_byte_plain dash refl

short_typed : (short : ℕ) → IsPlainShort short → IsTyped (short_word short)
short_typed short h = subst (λ text. IsTyped (dash ∷ text)) (encoded_short short h)
    ((dash_plain, (word_byte_plain short (or_left (is_ascii_alphanumeric short) (short == dash || short == underscore) h), tt)), refl)

long_typed : (name : List ℕ) → IsPlainName name → IsTyped (long_word name)
long_typed name h = ((dash_plain, (dash_plain, bytes_of name (plain_text name h))), refl)

-- the names of an argument, in either order
aliases_plain : {A : Type 0} (P : A → Type 0) (test : A → Bool) →
    ((a : A) → IsTrue (test a) → P a) → (aliases : List A) (first : Option A) →
    AllByRecursion P aliases → IsTrue (passes_if_some test first) →
    AllByRecursion P (aliases_then aliases first)
aliases_plain P test into aliases None h k = tt
aliases_plain P test into aliases (Some first) h k =
    AllByRecursion-append P aliases (first ∷ []) h (into first k, tt)

names_plain : {A : Type 0} (P : A → Type 0) (test : A → Bool) → ((a : A) → IsTrue (test a) → P a) →
    (first : Option A) (aliases : List A) → AllByRecursion P aliases →
    IsTrue (passes_if_some test first) → AllByRecursion P (with_aliases first aliases)
names_plain P test into None aliases h k = tt
names_plain P test into (Some first) aliases h k = (into first k, h)

-- ---- values

-- the possible values of an argument are words, and so are those of all arguments of a node
abbrev IsQuietArgument : Arg → Type 0
IsQuietArgument argument = AllByRecursion IsWord (value_names argument)

abbrev pub IsQuietNode : Node → Type 0
IsQuietNode node = AllByRecursion IsQuietArgument node.arguments

quiet_words : (possible : Option (List PossibleValue)) → IsTrue (are_quiet_values possible) →
    AllByRecursion IsWord (names_of_values (unwrap_or possible []))
quiet_words None h = tt
quiet_words (Some possible) h =
    AllByRecursion-map IsWord (λ value. value.name) possible
    (AllByRecursion-weaker (λ value. IsTrue (is_quiet_value value.name)) (λ value. IsWord value.name)
    (λ value k. quiet_word value.name k) possible
    (each_passes (λ value. is_quiet_value value.name) possible h))

pub quiet_node : (node : Node) → IsTrue (is_quiet_node node) → IsQuietNode node
quiet_node node h =
    AllByRecursion-weaker (λ argument. IsTrue (is_quiet_argument argument)) IsQuietArgument
    (λ argument k. quiet_words (possible_values argument) k)
    node.arguments (each_passes is_quiet_argument node.arguments h)

-- the visible values are among them
shown_words : (possible : List PossibleValue) → AllByRecursion IsWord (names_of_values possible) →
    AllByRecursion IsWord (names_of_shown possible)
shown_words possible h =
    AllByRecursion-map IsWord (λ value. value.name) (filter (λ value. not value.hide) possible)
    (AllByRecursion-filter (λ value. IsWord value.name) (λ value. not value.hide) possible
    (by_name possible h))
  where
    by_name : (values : List PossibleValue) → AllByRecursion IsWord (names_of_values values) →
        AllByRecursion (λ value. IsWord value.name) values
    by_name [] k = tt
    by_name (value ∷ values) k = (k.0, by_name values k.1)

hint_readable : (hint : ValueHint) → IsReadableOffer (offered_for None hint)
hint_readable Unknown = tt
hint_readable hint = tt

offer_readable : (argument : Arg) → IsQuietArgument argument → IsReadableOffer (offered_by argument)
offer_readable argument h = by (possible_values argument) h
  where
    by : (possible : Option (List PossibleValue)) →
        AllByRecursion IsWord (names_of_values (unwrap_or possible [])) →
        IsReadableOffer (offered_for possible argument.value_hint)
    by None k = hint_readable argument.value_hint
    by (Some possible) k = shown_words possible k

-- ---- words

sibling_names_plain : (forest : Forest) → IsTrue (is_plain_forest forest) →
    AllByRecursion IsPlainName (sibling_names forest)
sibling_names_plain none h = tt
sibling_names_plain (more node below rest) h =
    let plain = plain_more node below rest h in
    AllByRecursion-append IsPlainName (visible_names node) (sibling_names rest)
    (plain_node node plain.first.node).names (sibling_names_plain rest plain.later)

short_words_readable : (argument : Arg) → IsPlainArgument argument →
    AllByRecursion IsWord (short_words argument)
short_words_readable argument h =
    AllByRecursion-map IsWord short_word
    (aliases_then argument.visible_short_aliases argument.short)
    (AllByRecursion-weaker IsPlainShort (λ short. IsWord (short_word short))
    (λ short k. word_of (short_word short) (short_typed short k).0)
    (aliases_then argument.visible_short_aliases argument.short)
    (aliases_plain IsPlainShort is_ascii_alphanumeric (λ a p. p)
    argument.visible_short_aliases argument.short h.shorts h.short))

long_words_readable : (argument : Arg) → IsPlainArgument argument →
    AllByRecursion IsWord (long_words argument)
long_words_readable argument h =
    AllByRecursion-map IsWord long_word (aliases_then argument.visible_aliases argument.long)
    (AllByRecursion-weaker IsPlainName (λ name. IsWord (long_word name))
    (λ name k. word_of (long_word name) (long_typed name k).0)
    (aliases_then argument.visible_aliases argument.long)
    (aliases_plain IsPlainName is_plain_name (λ a p. p)
    argument.visible_aliases argument.long h.longs h.long))

words_readable : (tree : Tree) → IsPlainBelow tree → IsQuietNode tree.node →
    AllByRecursion IsWord (words_at tree)
unfolding words_at
words_readable tree h quiet =
    let plain = (plain_node tree.node h.node).arguments in
    let arguments = tree.node.arguments in
    let shorts = flat_map short_words arguments in
    let longs = flat_map long_words arguments in
    let found = flat_map value_names (positionals tree.node) in
    AllByRecursion-append IsWord ((shorts ++ longs) ++ found) (sibling_names tree.children)
    (AllByRecursion-append IsWord (shorts ++ longs) found
    (AllByRecursion-append IsWord shorts longs
    (AllByRecursion-flat_map IsWord short_words arguments
    (AllByRecursion-weaker IsPlainArgument (λ a. AllByRecursion IsWord (short_words a))
    short_words_readable arguments plain))
    (AllByRecursion-flat_map IsWord long_words arguments
    (AllByRecursion-weaker IsPlainArgument (λ a. AllByRecursion IsWord (long_words a))
    long_words_readable arguments plain)))
    (AllByRecursion-flat_map IsWord value_names (positionals tree.node)
    (AllByRecursion-filter IsQuietArgument is_positional arguments quiet)))
    (AllByRecursion-weaker IsPlainName IsWord (λ name k. word_of name (plain_text name k))
    (sibling_names tree.children) (sibling_names_plain tree.children h.children))

-- ---- details

option_details_readable : (argument : Arg) → IsPlainArgument argument × IsQuietArgument argument →
    AllByRecursion IsReadableDetail (option_details argument)
option_details_readable argument h =
    let longs = shown_longs argument in
    let shorts = shown_shorts argument in
    let are_typed : AllByRecursion IsTyped (option_words argument) =
    AllByRecursion-append IsTyped (map long_word longs) (map short_word shorts)
    (AllByRecursion-map IsTyped long_word longs
    (AllByRecursion-weaker IsPlainName (λ name. IsTyped (long_word name)) long_typed longs
    (names_plain IsPlainName is_plain_name (λ a p. p)
    argument.long argument.visible_aliases h.0.longs h.0.long)))
    (AllByRecursion-map IsTyped short_word shorts
    (AllByRecursion-weaker IsPlainShort (λ short. IsTyped (short_word short))
    short_typed shorts (names_plain IsPlainShort is_ascii_alphanumeric (λ a p. p)
    argument.short argument.visible_short_aliases h.0.shorts h.0.short))) in
    AllByRecursion-map IsReadableDetail (detail_of argument) (option_words argument)
    (AllByRecursion-weaker IsTyped (λ word. IsReadableDetail (detail_of argument word)) readable
    (option_words argument) are_typed)
  where
    readable : (word : List ℕ) → IsTyped word → IsReadableDetail (detail_of argument word)
    readable word k = record {
      word = word_of word k.0;
      no_paren =
          no_paren_of word (bytes_of word k.0);
      no_star = k.1;
      offered = offer_readable argument h.1;
    }

details_readable : (node : Node) → IsTrue (is_plain_node node) → IsQuietNode node →
    AllByRecursion IsReadableDetail (details_at node)
unfolding details_at
details_readable node h quiet =
    AllByRecursion-flat_map IsReadableDetail option_details (options node)
    (AllByRecursion-weaker (λ a. IsPlainArgument a × IsQuietArgument a)
    (λ a. AllByRecursion IsReadableDetail (option_details a)) option_details_readable
    (options node)
    (AllByRecursion-filter (λ a. IsPlainArgument a × IsQuietArgument a) is_option node.arguments
    (AllByRecursion-both IsPlainArgument IsQuietArgument node.arguments
    (plain_node node h).arguments quiet)))

pub arm_readable : (label : List ℕ) (level : ℕ) (tree : Tree) → IsPlainText label →
    IsPlainBelow tree → IsQuietNode tree.node → IsReadableArm (arm_of label level tree)
arm_readable label level tree h k quiet = record {
  label = word_of label h;
  no_paren = no_paren_of label (bytes_of label h);
  level = decimal_word level;
  words = words_readable tree k quiet;
  details = details_readable tree.node k.node quiet;
}
