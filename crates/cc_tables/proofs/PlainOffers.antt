-- The words that are offered at a plain node consist of bytes that may occur in plain names.
use Rattle.std.proofs.Common.{◌≡◌, ◌≢◌, ℕ, IsTrue, List, [], ◌∷◌, ◌++◌, map, flat_map, encode_utf8, subst, sym, arith}
use Rattle.std.specs.Char.{is_ascii_alphanumeric}
use Rattle.std.specs.List.{AllByRecursion}
use Rattle.std.proofs.lemmas.Bool.Decides.{nat_tests}
use Rattle.std.proofs.lemmas.Str.{encode_ascii}
use Rattle.cc_base.proofs.Members.{AllByRecursion-weaker, AllByRecursion-append, AllByRecursion-map, AllByRecursion-flat_map}
use Rattle.cc_arg.specs.declared.parts.ArgParts.{ArgParts as Arg}
use Rattle.cc_arg.specs.ShownNames.{shown_names, shown_shorts, shown_longs}
use Rattle.cc_arg.specs.declared.names.ShownName.TheVariants.{Short as ShownShort, Long as ShownLong}
use Rattle.cc_command.specs.declared.node.Node.{Node}
use Rattle.cc_command.specs.Tree.{Forest, none, more, Tree}
use Rattle.cc_command.specs.ArgumentLists.{options, flags}
use Rattle.cc_command.specs.Names.{visible_names}
use Rattle.cc_command.specs.Plain.{is_plain_forest}
use Rattle.cc_base.specs.PlainName.{name_byte, foreign, is_plain_name, is_joined}
use Rattle.cc_base.proofs.NameBytes.{AreNameBytes, plain_bytes}
use Rattle.cc_command.proofs.PlainParts.{IsPlainName, IsPlainShort, IsPlainArgument, IsPlainBelow, plain_node, plain_more, shown_plain}
use Rattle.cc_tables.specs.Offers.{word, short_offer, long_offer, argument_offer, argument_offers, child_offer, child_offers, children_offers, node_offers}
use Rattle.cc_tables.specs.declared.offers.Offer.{Offer}

-- the word of an offer is not empty, and its bytes may occur in a plain name
pub record IsPlainOffer (offer : Offer) : Type 0 where
  pub is_some : word offer ≢ []
  pub bytes : AreNameBytes (word offer)

abbrev pub ArePlainOffers : List Offer → Type 0
ArePlainOffers offers = AllByRecursion IsPlainOffer offers

-- a dash may occur in a plain name
dash_byte : name_byte 45 ≢ foreign
unfolding name_byte
dash_byte = λ e. cc

-- a letter or a digit may occur in a plain name
letter_byte : (byte : ℕ) → IsTrue (is_ascii_alphanumeric byte) → name_byte byte ≢ foreign
unfolding name_byte
letter_byte byte h = rw h (λ e. cc)

-- the offer of a short
short_plain : (argument : Arg) (character : ℕ) → IsPlainShort character → IsPlainOffer (short_offer argument character)
short_plain argument character h =
    let one : encode_utf8 character ≡ character ∷ [] = encode_ascii character (grind (arith, nat_tests)) in
    record { is_some = λ e. cc; bytes = (dash_byte, subst AreNameBytes (sym one) (letter_byte character h, tt)) }

-- the offer of a long
long_plain : (argument : Arg) (name : List ℕ) → IsPlainName name → IsPlainOffer (long_offer argument name)
long_plain argument name h = record { is_some = λ e. cc; bytes = (dash_byte, (dash_byte, plain_bytes name h)) }

-- the offer of a name of a child
child_plain : (child : Node) (name : List ℕ) → IsPlainName name → IsPlainOffer (child_offer child name)
unfolding is_plain_name is_joined
child_plain child [] h = cc
child_plain child (byte ∷ name) h = record { is_some = λ e. cc; bytes = plain_bytes (byte ∷ name) h }

-- the offers of a plain argument
argument_plain : (argument : Arg) → IsPlainArgument argument → ArePlainOffers (argument_offers argument)
argument_plain argument h =
    let shorts = shown_plain is_ascii_alphanumeric argument.short argument.visible_short_aliases h.short h.shorts in
    let longs = shown_plain is_plain_name argument.long argument.visible_aliases h.long h.longs in
    AllByRecursion-map IsPlainOffer (argument_offer argument) (shown_names argument)
    (AllByRecursion-append (λ name. IsPlainOffer (argument_offer argument name)) (map ShownShort (shown_shorts argument)) (map ShownLong (shown_longs argument))
    (AllByRecursion-map (λ name. IsPlainOffer (argument_offer argument name)) ShownShort (shown_shorts argument)
    (AllByRecursion-weaker IsPlainShort (λ character. IsPlainOffer (short_offer argument character)) (short_plain argument) (shown_shorts argument) shorts))
    (AllByRecursion-map (λ name. IsPlainOffer (argument_offer argument name)) ShownLong (shown_longs argument)
    (AllByRecursion-weaker IsPlainName (λ name. IsPlainOffer (long_offer argument name)) (long_plain argument) (shown_longs argument) longs)))

-- the offers of plain arguments
pub arguments_plain : (arguments : List Arg) → AllByRecursion IsPlainArgument arguments → ArePlainOffers (flat_map argument_offers arguments)
arguments_plain arguments h =
    AllByRecursion-flat_map IsPlainOffer argument_offers arguments
    (AllByRecursion-weaker IsPlainArgument (λ argument. ArePlainOffers (argument_offers argument)) argument_plain arguments h)

-- the offers of plain siblings
children_plain : (forest : Forest) → IsTrue (is_plain_forest forest) → ArePlainOffers (children_offers forest)
children_plain none h = tt
children_plain (more child below rest) h =
    let each = plain_more child below rest h in
    AllByRecursion-append IsPlainOffer (child_offers child) (children_offers rest)
    (AllByRecursion-map IsPlainOffer (child_offer child) (visible_names child)
    (AllByRecursion-weaker IsPlainName (λ name. IsPlainOffer (child_offer child name)) (child_plain child) (visible_names child) (plain_node child each.first.node).names))
    (children_plain rest each.later)

-- the offers at a plain node
pub node_plain : (tree : Tree) → IsPlainBelow tree → ArePlainOffers (node_offers tree)
unfolding node_offers
node_plain tree h =
    let node = plain_node tree.node h.node in
    let of_options : List Offer = flat_map argument_offers (options tree.node) in
    let of_flags : List Offer = flat_map argument_offers (flags tree.node) in
    AllByRecursion-append IsPlainOffer (of_options ++ of_flags) (children_offers tree.children)
    (AllByRecursion-append IsPlainOffer of_options of_flags (arguments_plain (options tree.node) node.options) (arguments_plain (flags tree.node) node.flags))
    (children_plain tree.children h.children)
