-- The names of a plain tree need no quotes in fish.
use Rattle.std.proofs.Common.{◌≡◌, ◌≢◌, ℕ, true, IsTrue, List, [], ◌∷◌, encode_utf8, refl, ap, sym, subst, arith}
use Rattle.std.specs.Char.{is_ascii_alphanumeric}
use Rattle.std.specs.List.{AllByRecursion}
use Rattle.std.proofs.lemmas.Bool.Decides.{nat_tests}
use Rattle.std.proofs.lemmas.Str.{encode_ascii}
use Rattle.cc_base.specs.Bytes.{dash}
use Rattle.cc_base.proofs.Members.{AllByRecursion-weaker, AllByRecursion-append}
use Rattle.cc_arg.specs.declared.parts.ArgParts.{ArgParts as Arg}
use Rattle.cc_arg.specs.ShownNames.{shown_shorts, shown_longs}
use Rattle.cc_command.specs.Names.{visible_names}
use Rattle.cc_command.specs.Plain.{is_plain_forest}
use Rattle.cc_base.specs.PlainName.{foreign, name_byte, is_joined, is_plain_name}
use Rattle.cc_command.specs.Tree.{Forest, none, more}
use Rattle.cc_base.proofs.NameBytes.{plain_bytes}
use Rattle.cc_quote.proofs.SafeNames.{fish_safe}
use Rattle.cc_command.proofs.PlainParts.{IsPlainName, IsPlainShort, IsPlainArgument, plain_node, plain_more, shown_plain}
use Rattle.cc_quote.specs.FishQuote.{begins_word, is_fish_safe, fish_escaped}
use Rattle.cc_quote.proofs.FishEscaped.{safe_escaped}
use Rattle.cc_quote.proofs.FishWords.{IsSafe, safe_sign, safe_bare}
use Rattle.cc_quote.proofs.FishCutting.{Spells}
use Rattle.cc_generator.specs.Subcommands.{sibling_names}

-- bytes that need no quotes, at least one
abbrev pub IsName : List ℕ → Type 0
IsName [] = ⊥
IsName (byte ∷ bytes) = IsSafe (byte ∷ bytes)

pub name_safe : (name : List ℕ) → IsName name → IsSafe name
name_safe [] h = absurd h
name_safe (byte ∷ bytes) h = h

-- a name spells itself
pub name_spelled : (name : List ℕ) → IsName name → Spells name name
name_spelled [] h = absurd h
name_spelled (byte ∷ bytes) h = record { begins = ap begins_word (safe_sign byte h.0); spells = safe_bare (byte ∷ bytes) [] h }

-- the escape of a name is the name
name_escaped : (name : List ℕ) → IsName name → fish_escaped name ≡ name
name_escaped name h = safe_escaped name (name_safe name h)

-- the escape of a name is a name
pub escaped_name : (name : List ℕ) → IsName name → IsName (fish_escaped name)
escaped_name name h = subst IsName (sym (name_escaped name h)) h

-- the escape of a name spells the name
pub escaped_spelled : (name : List ℕ) → IsName name → Spells (fish_escaped name) name
escaped_spelled name h = subst (λ text. Spells text name) (sym (name_escaped name h)) (name_spelled name h)

-- ---- plain names

pub letter_safe : (byte : ℕ) → is_ascii_alphanumeric byte ≡ true → is_fish_safe byte ≡ true
unfolding is_fish_safe
letter_safe byte h = rw h

pub dash_safe : is_fish_safe dash ≡ true
unfolding is_fish_safe
dash_safe = refl

pub plain_name : (name : List ℕ) → IsPlainName name → IsName name
unfolding is_plain_name is_joined
plain_name [] h = cc
plain_name (byte ∷ bytes) h = AllByRecursion-weaker (λ b. name_byte b ≢ foreign) (λ b. is_fish_safe b ≡ true) fish_safe (byte ∷ bytes) (plain_bytes (byte ∷ bytes) h)

pub plain_names : (names : List (List ℕ)) → AllByRecursion IsPlainName names → AllByRecursion IsName names
plain_names names h = AllByRecursion-weaker IsPlainName IsName plain_name names h

-- ---- the names of an argument

-- a short, in UTF-8
abbrev pub IsShortName : ℕ → Type 0
IsShortName short = IsName (encode_utf8 short)

plain_short : (short : ℕ) → IsPlainShort short → IsShortName short
plain_short short h = subst IsName (sym (encode_ascii short (grind (arith, nat_tests)))) (letter_safe short h, tt)

pub plain_shorts : (argument : Arg) → IsPlainArgument argument → AllByRecursion IsShortName (shown_shorts argument)
plain_shorts argument is =
    AllByRecursion-weaker IsPlainShort IsShortName plain_short (shown_shorts argument)
    (shown_plain is_ascii_alphanumeric argument.short argument.visible_short_aliases is.short is.shorts)

pub plain_longs : (argument : Arg) → IsPlainArgument argument → AllByRecursion IsName (shown_longs argument)
plain_longs argument is =
    plain_names (shown_longs argument) (shown_plain is_plain_name argument.long argument.visible_aliases is.long is.longs)

-- ---- the names of paths and of children

pub safe_names : (names : List (List ℕ)) → AllByRecursion IsPlainName names → AllByRecursion IsSafe names
safe_names names h = AllByRecursion-weaker IsPlainName IsSafe (λ name plain. name_safe name (plain_name name plain)) names h

pub children_safe : (children : Forest) → IsTrue (is_plain_forest children) → AllByRecursion IsSafe (sibling_names children)
children_safe none h = tt
children_safe (more node below rest) h =
    let plain = plain_more node below rest h in
    AllByRecursion-append IsSafe (visible_names node) (sibling_names rest) (safe_names (visible_names node) (plain_node node plain.first.node).names) (children_safe rest plain.later)
