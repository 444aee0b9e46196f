-- Plain names meet what the reader requires.
use Rattle.std.proofs.Common.{◌≡◌, ◌≢◌, ◌==◌, ◌||◌, ℕ, ◌<◌, Bool, true, false, cond, IsTrue, List, [], ◌∷◌, ◌++◌, flat_map, map, Option, Some, None, codes, refl, sym, ap, ◌∙◌, subst, arith}
use Rattle.std.specs.Char.{is_ascii_alphanumeric}
use Rattle.std.specs.List.{AllByRecursion}
use Rattle.std.specs.Option.{option_to_list}
use Rattle.std.specs.Str.{bytes_eq}
use Rattle.std.proofs.lemmas.Str.{encode_ascii}
use Rattle.std.proofs.lemmas.Bool.Decides.{nat_tests}
use Rattle.cc_base.specs.Bytes.{dash, single_quote, underscore}
use Rattle.cc_base.proofs.Members.{AllByRecursion-weaker, AllByRecursion-append, AllByRecursion-map}
use Rattle.cc_base.specs.Joined.{joined, joined_after, separator}
use Rattle.cc_arg.specs.declared.parts.ArgParts.{ArgParts as Arg}
use Rattle.cc_arg.specs.declared.names.ShownName.{ShownName}
use Rattle.cc_arg.specs.declared.names.ShownName.TheVariants.{Short, Long}
use Rattle.cc_arg.specs.ShownNames.{shown_names, shown_shorts, shown_longs}
use Rattle.cc_command.specs.declared.node.Node.{Node}
use Rattle.cc_command.specs.Plain.{passes_if_some}
use Rattle.cc_base.specs.PlainName.{letter, joiner, foreign, is_joined, name_byte, is_plain_name}
use Rattle.cc_base.proofs.NameBytes.{plain_bytes, letter_or_joiner}
use Rattle.cc_command.proofs.PlainParts.{IsPlainName, IsPlainShort, IsPlainArgument, shown_plain}
use Rattle.cc_quote.specs.PosixSigns.{sign}
use Rattle.cc_quote.specs.PosixSigns.Sign.{other}
use Rattle.cc_quote.proofs.PosixCutting.{IsOther}
use Rattle.cc_command.specs.ArgumentLists.{first_with_id}
use Rattle.cc_generator.specs.ArgumentNames.{long_word, short_word}
use Rattle.cc_zsh.specs.Conflicts.{conflict_scope, conflicts_of, short_words, long_words, own_words, conflict_words, conflicts_text, has_arguments}
use Rattle.cc_zsh.specs.Options.{name_word}
use Rattle.cc_zsh.specs.Reader.{is_name_byte, is_typed_name}
use Rattle.cc_zsh.proofs.Cutting.{NoQuote}
use Rattle.cc_zsh.proofs.OptionWords.{AreNameBytes, name_byte-differs, IsDashed, StartsDashed, IsFront, dashed_bytes, front_of}

-- ---- bytes

letter_is : (byte : ℕ) → is_ascii_alphanumeric byte ≡ true → is_name_byte byte ≡ true
unfolding is_name_byte
letter_is byte h = grind (arith, nat_tests)

name_byte_is : (byte : ℕ) → name_byte byte ≢ foreign → is_name_byte byte ≡ true
unfolding is_name_byte
name_byte_is byte h = let k = letter_or_joiner byte h in grind (arith, nat_tests)

-- a plain name consists of such bytes
pub plain_name_bytes : (name : List ℕ) → IsPlainName name → AreNameBytes name
plain_name_bytes name h = AllByRecursion-weaker (λ byte. name_byte byte ≢ foreign)
    (λ byte. is_name_byte byte ≡ true) name_byte_is name (plain_bytes name h)

name_byte_other : (byte : ℕ) → is_name_byte byte ≡ true → sign byte ≡ other byte
unfolding is_name_byte sign
name_byte_other byte h = grind (arith, nat_tests)

pub name_other : (text : List ℕ) → AreNameBytes text → IsOther text
name_other text h = AllByRecursion-weaker (λ byte. is_name_byte byte ≡ true)
    (λ byte. sign byte ≡ other byte) name_byte_other text h

pub name_no_quote : (text : List ℕ) → AreNameBytes text → NoQuote text
name_no_quote text h = AllByRecursion-weaker (λ byte. is_name_byte byte ≡ true)
    (λ byte. byte == single_quote ≡ false) (λ byte. name_byte-differs single_quote byte refl) text h

-- ---- names of arguments

short_low : (short : ℕ) → is_ascii_alphanumeric short ≡ true → short < 128
short_low short h = grind (arith, nat_tests)

short_no_dash : (short : ℕ) → is_ascii_alphanumeric short ≡ true → short == dash ≡ false
short_no_dash short h = grind (arith, nat_tests)

short_typed : (short : ℕ) → IsPlainShort short → IsTrue (is_typed_name (dash ∷ short ∷ []))
unfolding is_typed_name is_plain_name is_joined name_byte
short_typed short h =
    ap (λ b. is_plain_name (cond b [] (short ∷ []))) (short_no_dash short h)
    ∙ ap (λ b. is_joined (cond b letter (cond (short == dash || short == underscore) joiner foreign) ∷ [])) h

short_dashed : (short : ℕ) → IsPlainShort short → IsDashed (short_word short)
short_dashed short h = subst (λ t. IsDashed (dash ∷ t)) (sym (encode_ascii short (short_low short h)))
    (record { starts = (refl, (letter_is short h, tt)); typed = short_typed short h })

dash_bytes : (text : List ℕ) → AreNameBytes text → StartsDashed (codes "--" ++ text)
unfolding is_name_byte
dash_bytes text h = (refl, (refl, h))

long_typed : (long : List ℕ) → IsPlainName long → IsTrue (is_typed_name (codes "--" ++ long))
unfolding is_typed_name
long_typed long h = h

long_dashed : (long : List ℕ) → IsPlainName long → IsDashed (long_word long)
long_dashed long h =
    record { starts = dash_bytes long (plain_name_bytes long h); typed = long_typed long h }

-- a name with its dashes
abbrev pub IsDashedName : ShownName → Type 0
IsDashedName name = IsDashed (name_word name)

pub names_dashed : (argument : Arg) → IsPlainArgument argument →
    AllByRecursion IsDashedName (shown_names argument)
names_dashed argument h =
    AllByRecursion-append IsDashedName (map Short (shown_shorts argument))
    (map Long (shown_longs argument))
    (AllByRecursion-map IsDashedName Short (shown_shorts argument)
    (AllByRecursion-weaker IsPlainShort (λ short. IsDashed (short_word short)) short_dashed
    (shown_shorts argument) (shown_plain is_ascii_alphanumeric argument.short
    argument.visible_short_aliases h.short h.shorts)))
    (AllByRecursion-map IsDashedName Long (shown_longs argument)
    (AllByRecursion-weaker IsPlainName (λ long. IsDashed (long_word long)) long_dashed
    (shown_longs argument) (shown_plain is_plain_name argument.long
    argument.visible_aliases h.long h.longs)))

-- ---- conflicting names

own_dashed : (argument : Arg) → IsPlainArgument argument →
    AllByRecursion IsDashed (own_words argument)
own_dashed argument h = AllByRecursion-append IsDashed (short_words argument.short)
    (long_words argument.long) (by_short argument.short h.short) (by_long argument.long h.long)
  where
    by_short : (short : Option ℕ) → IsTrue (passes_if_some is_ascii_alphanumeric short) →
        AllByRecursion IsDashed (short_words short)
    by_short None k = tt
    by_short (Some short) k = (short_dashed short k, tt)

    by_long : (long : Option (List ℕ)) → IsTrue (passes_if_some is_plain_name long) →
        AllByRecursion IsDashed (long_words long)
    by_long None k = tt
    by_long (Some long) k = (long_dashed long k, tt)

words_dashed : (arguments : List Arg) → AllByRecursion IsPlainArgument arguments →
    AllByRecursion IsDashed (conflict_words arguments)
words_dashed [] h = tt
words_dashed (argument ∷ arguments) (h, hs) =
    AllByRecursion-append IsDashed (own_words argument) (conflict_words arguments)
    (own_dashed argument h) (words_dashed arguments hs)

found_plain : (arguments : List Arg) (id : List ℕ) → AllByRecursion IsPlainArgument arguments →
    AllByRecursion IsPlainArgument (option_to_list (first_with_id arguments id))
found_plain [] id h = tt
found_plain (argument ∷ arguments) id (h, hs) =
    by_test (bytes_eq argument.id id) (found_plain arguments id hs)
  where
    by_test : (b : Bool) →
        AllByRecursion IsPlainArgument (option_to_list (first_with_id arguments id)) →
        AllByRecursion IsPlainArgument
        (option_to_list (cond b (Some argument) (first_with_id arguments id)))
    by_test true k = (h, tt)
    by_test false k = k

ids_plain : (arguments : List Arg) (ids : List (List ℕ)) →
    AllByRecursion IsPlainArgument arguments →
    AllByRecursion IsPlainArgument (flat_map (λ id. option_to_list (first_with_id arguments id)) ids)
ids_plain arguments [] h = tt
ids_plain arguments (id ∷ ids) h =
    AllByRecursion-append IsPlainArgument (option_to_list (first_with_id arguments id))
    (flat_map (λ id. option_to_list (first_with_id arguments id)) ids) (found_plain arguments id h) (ids_plain arguments ids h)

conflicting_plain : (above node : Node) (argument : Arg) →
    AllByRecursion IsPlainArgument above.arguments →
    AllByRecursion IsPlainArgument node.arguments →
    AllByRecursion IsPlainArgument (conflicts_of above node argument)
conflicting_plain above node argument h k =
    ids_plain (conflict_scope above node argument) argument.conflicts (by_test argument.global)
  where
    by_test : (b : Bool) →
        AllByRecursion IsPlainArgument (cond b above.arguments node.arguments)
    by_test true = h
    by_test false = k

pub conflicting_dashed : (above node : Node) (argument : Arg) →
    AllByRecursion IsPlainArgument above.arguments →
    AllByRecursion IsPlainArgument node.arguments →
    AllByRecursion IsDashed (conflict_words (conflicts_of above node argument))
conflicting_dashed above node argument h k =
    words_dashed (conflicts_of above node argument) (conflicting_plain above node argument h k)

-- there are brackets if and only if there are conflicting arguments
pub conflicts_front : (arguments : List Arg) →
    conflicts_text arguments ≡ front_of (has_arguments arguments) (conflict_words arguments)
unfolding conflicts_text
conflicts_front [] = refl
conflicts_front (argument ∷ arguments) = refl

pub conflicts_are : (arguments : List Arg) → AllByRecursion IsDashed (conflict_words arguments) →
    IsFront (has_arguments arguments) (conflict_words arguments)
conflicts_are [] h = refl
conflicts_are (argument ∷ arguments) h = h

joined_no_quote : (begun : Bool) (words : List (List ℕ)) → AllByRecursion IsDashed words →
    NoQuote (joined_after (codes " ") begun words)
joined_no_quote begun [] h = tt
joined_no_quote begun (word ∷ words) (h, hs) =
    AllByRecursion-append (λ byte. byte == single_quote ≡ false) (separator (codes " ") begun ++ word)
    (joined_after (codes " ") true words)
    (AllByRecursion-append (λ byte. byte == single_quote ≡ false) (separator (codes " ") begun) word
    (front begun) (name_no_quote word (dashed_bytes word h)))
    (joined_no_quote true words hs)
  where
    front : (begun : Bool) → NoQuote (separator (codes " ") begun)
    front true = (refl, tt)
    front false = tt

pub front_no_quote : (has_front : Bool) (words : List (List ℕ)) → IsFront has_front words →
    NoQuote (front_of has_front words)
front_no_quote false words h = tt
front_no_quote true words h = (
  refl,
  AllByRecursion-append (λ byte. byte == single_quote ≡ false) (joined (codes " ") words) (codes ")")
      (joined_no_quote false words h) (refl, tt),
)
