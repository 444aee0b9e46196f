-- The offers at a plain node hold none of PowerShell's further quotes, if the quotes of the tree
-- are escaped.
use Rattle.std.proofs.Common.{◌≡◌, ◌≢◌, refl, sym, subst, ℕ, ◌++◌, Bool, IsTrue, List, [], ◌∷◌, map, flat_map, encode_utf8, Option, Some, None, is_none, unwrap_or, arith}
use Rattle.std.specs.Char.{is_ascii_alphanumeric}
use Rattle.std.specs.List.{AllByRecursion}
use Rattle.std.proofs.lemmas.Bool.{and_parts}
use Rattle.std.proofs.lemmas.Bool.Decides.{nat_tests}
use Rattle.std.proofs.lemmas.Str.{encode_ascii}
use Rattle.cc_base.proofs.Booleans.{each_passes}
use Rattle.cc_base.proofs.Members.{AllByRecursion-weaker, AllByRecursion-append, AllByRecursion-map, AllByRecursion-flat_map, AllByRecursion-filter}
use Rattle.cc_arg.specs.declared.parts.ArgParts.{ArgParts as Arg}
use Rattle.cc_arg.specs.ShownNames.{shown_names, shown_shorts, shown_longs}
use Rattle.cc_arg.specs.declared.names.ShownName.TheVariants.{Short as ShownShort, Long as ShownLong}
use Rattle.cc_command.specs.ArgumentLists.{is_flag, is_option, flags, options}
use Rattle.cc_command.specs.Escaped.{is_escaped_argument, is_escaped_forest, is_escaped_node, is_escaped_text, is_escaped_tree, unescaped_quote}
use Rattle.cc_command.specs.Names.{visible_names}
use Rattle.cc_command.specs.Plain.{is_plain_forest, passes_if_some}
use Rattle.cc_command.specs.Tree.{Forest, none, more, Tree}
use Rattle.cc_base.specs.PlainName.{name_byte, foreign, is_plain_name}
use Rattle.cc_base.proofs.NameBytes.{letter_or_joiner}
use Rattle.cc_command.proofs.PlainParts.{IsPlainName, IsPlainShort, IsPlainArgument, IsPlainBelow, plain_node, plain_more, shown_plain}
use Rattle.cc_tables.specs.Offers.{word, short_offer, long_offer, argument_offer, argument_offers, child_offer, child_offers, children_offers, node_offers}
use Rattle.cc_tables.specs.PowershellScript.{shown_text}
use Rattle.cc_tables.specs.declared.offers.Offer.{Offer}
use Rattle.cc_tables.proofs.PlainOffers.{IsPlainOffer, node_plain}
use Rattle.cc_tables.proofs.PlainTables.{of_plain_name}
use Rattle.cc_command.proofs.EscapedBuilt.{escaped_more, escaped_node}
use Rattle.cc_tables.proofs.PowershellFreeTexts.{IsAscii, IsFree, ascii_part}

-- the description of an offer is free of these quotes
abbrev IsFreeText : Offer → Type 0
IsFreeText offer = IsFree (shown_text offer.description offer.fallback)

-- the description is free of these quotes, and the word is ASCII
pub record IsFreeOffer (offer : Offer) : Type 0 where
  pub word : AllByRecursion IsAscii (word offer)
  pub text : IsFree (shown_text offer.description offer.fallback)

none_of : (found : Option ℕ) → IsTrue (is_none found) → found ≡ None
none_of None h = refl
none_of (Some quote) h = cc

shown_free : (description : Option (List ℕ)) (fallback : List ℕ) → IsTrue (passes_if_some is_escaped_text description) → IsFree fallback →
    IsFree (shown_text description fallback)
shown_free None fallback h k = k
shown_free (Some []) fallback h k = k
shown_free (Some (byte ∷ bytes)) fallback h k = none_of (unescaped_quote (byte ∷ bytes)) h

plain_or : {A : Type 0} (test : A → Bool) (first : Option A) (other : A) → IsTrue (passes_if_some test first) → IsTrue (test other) →
    IsTrue (test (unwrap_or first other))
plain_or test None other h k = k
plain_or test (Some first) other h k = h

-- ---- ASCII

name_ascii : (byte : ℕ) → name_byte byte ≢ foreign → IsAscii byte
name_ascii byte h = let k = letter_or_joiner byte h in grind (arith, nat_tests)

pub plain_ascii : (name : List ℕ) → IsPlainName name → AllByRecursion IsAscii name
plain_ascii name h = of_plain_name IsAscii name_ascii name h

short_ascii : (character : ℕ) → IsPlainShort character → AllByRecursion IsAscii (encode_utf8 character)
short_ascii character h =
    let one : encode_utf8 character ≡ character ∷ [] = encode_ascii character (grind (arith, nat_tests)) in
    let ascii : IsAscii character = grind (arith, nat_tests) in
    subst (λ text. AllByRecursion IsAscii text) (sym one) (ascii, tt)

name_free : (name : List ℕ) → IsPlainName name → IsFree name
name_free name h = (ascii_part name (plain_ascii name h)).free

-- ---- offers

short_free : (argument : Arg) → IsPlainArgument argument → IsTrue (is_escaped_argument argument) → (character : ℕ) → IsPlainShort character →
    IsFreeText (short_offer argument character)
short_free argument plain escaped character h =
    let short : ℕ = unwrap_or argument.short character in
    shown_free argument.help (encode_utf8 short) escaped
    (ascii_part (encode_utf8 short) (short_ascii short (plain_or is_ascii_alphanumeric argument.short character plain.short h))).free

long_free : (argument : Arg) → IsPlainArgument argument → IsTrue (is_escaped_argument argument) → (name : List ℕ) → IsPlainName name →
    IsFreeText (long_offer argument name)
long_free argument plain escaped name h =
    let long : List ℕ = unwrap_or argument.long name in
    shown_free argument.help long escaped (name_free long (plain_or is_plain_name argument.long name plain.long h))

argument_free : (argument : Arg) → IsPlainArgument argument × IsTrue (is_escaped_argument argument) → AllByRecursion IsFreeText (argument_offers argument)
argument_free argument h =
    let shorts = shown_plain is_ascii_alphanumeric argument.short argument.visible_short_aliases h.0.short h.0.shorts in
    let longs = shown_plain is_plain_name argument.long argument.visible_aliases h.0.long h.0.longs in
    AllByRecursion-map IsFreeText (argument_offer argument) (shown_names argument)
    (AllByRecursion-append (λ name. IsFreeText (argument_offer argument name)) (map ShownShort (shown_shorts argument)) (map ShownLong (shown_longs argument))
    (AllByRecursion-map (λ name. IsFreeText (argument_offer argument name)) ShownShort (shown_shorts argument)
    (AllByRecursion-weaker IsPlainShort (λ character. IsFreeText (short_offer argument character)) (short_free argument h.0 h.1) (shown_shorts argument) shorts))
    (AllByRecursion-map (λ name. IsFreeText (argument_offer argument name)) ShownLong (shown_longs argument)
    (AllByRecursion-weaker IsPlainName (λ name. IsFreeText (long_offer argument name)) (long_free argument h.0 h.1) (shown_longs argument) longs)))

pub both : {A : Type 0} (P Q : A → Type 0) (items : List A) → AllByRecursion P items → AllByRecursion Q items → AllByRecursion (λ item. P item × Q item) items
both P Q [] h k = tt
both P Q (item ∷ items) h k = ((h.0, k.0), both P Q items h.1 k.1)

arguments_free : (arguments : List Arg) → AllByRecursion IsPlainArgument arguments → AllByRecursion (λ argument. IsTrue (is_escaped_argument argument)) arguments →
    AllByRecursion IsFreeText (flat_map argument_offers arguments)
arguments_free arguments h k =
    AllByRecursion-flat_map IsFreeText argument_offers arguments
    (AllByRecursion-weaker (λ argument. IsPlainArgument argument × IsTrue (is_escaped_argument argument)) (λ argument. AllByRecursion IsFreeText (argument_offers argument)) argument_free arguments
    (both IsPlainArgument (λ argument. IsTrue (is_escaped_argument argument)) arguments h k))

children_free : (forest : Forest) → IsTrue (is_plain_forest forest) → IsTrue (is_escaped_forest forest) → AllByRecursion IsFreeText (children_offers forest)
children_free none h k = tt
children_free (more child below rest) h k =
    let plain = plain_more child below rest h in
    let escaped = escaped_more child below rest k in
    AllByRecursion-append IsFreeText (child_offers child) (children_offers rest)
    (AllByRecursion-map IsFreeText (child_offer child) (visible_names child)
    (AllByRecursion-weaker IsPlainName (λ name. IsFreeText (child_offer child name))
    (λ name named. shown_free child.about name (escaped_node child escaped.first).about (name_free name named))
    (visible_names child) (plain_node child plain.first.node).names))
    (children_free rest plain.later escaped.later)

texts_free : (tree : Tree) → IsPlainBelow tree → IsTrue (is_escaped_tree tree) → AllByRecursion IsFreeText (node_offers tree)
unfolding node_offers
texts_free tree h k =
    let node = plain_node tree.node h.node in
    let parts = and_parts (is_escaped_node tree.node) (is_escaped_forest tree.children) k in
    let escaped = each_passes is_escaped_argument tree.node.arguments (escaped_node tree.node parts.0).arguments in
    let IsEscaped : Arg → Type 0 = λ argument. IsTrue (is_escaped_argument argument) in
    let of_options : List Offer = flat_map argument_offers (options tree.node) in
    let of_flags : List Offer = flat_map argument_offers (flags tree.node) in
    AllByRecursion-append IsFreeText (of_options ++ of_flags) (children_offers tree.children)
    (AllByRecursion-append IsFreeText of_options of_flags
    (arguments_free (options tree.node) node.options (AllByRecursion-filter IsEscaped is_option tree.node.arguments escaped))
    (arguments_free (flags tree.node) node.flags (AllByRecursion-filter IsEscaped is_flag tree.node.arguments escaped)))
    (children_free tree.children h.children parts.1)

offer_free : (offer : Offer) → IsPlainOffer offer × IsFreeText offer → IsFreeOffer offer
offer_free offer h = record {
  word = AllByRecursion-weaker (λ byte. name_byte byte ≢ foreign) IsAscii name_ascii (word offer) h.0.bytes;
  text = h.1;
}

-- the offers at such a node
pub offers_free : (tree : Tree) → IsPlainBelow tree → IsTrue (is_escaped_tree tree) → AllByRecursion IsFreeOffer (node_offers tree)
offers_free tree h k =
    AllByRecursion-weaker (λ offer. IsPlainOffer offer × IsFreeText offer) IsFreeOffer offer_free (node_offers tree)
    (both IsPlainOffer IsFreeText (node_offers tree) (node_plain tree h) (texts_free tree h k))
