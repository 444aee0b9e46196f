-- A cluster of shorts, character by character.
use Rattle.std.proofs.Common.{◌≡◌, ◌++◌, ◌==◌, ℕ, List, [], ◌∷◌, length, true, false, Some, None, refl, ap, ◌∙◌, sym, append_assoc}
use Rattle.std.specs.Prelude.{chars, IsUtf8, encode_utf8}
use Rattle.std.proofs.lemmas.List.{nil_from_length}
use Rattle.std.proofs.lemmas.Str.{chars_past_char, encodes-chars, chars-nil}
use Rattle.cc_arg.specs.declared.parts.ArgParts.{ArgParts as Arg}
use Rattle.cc_engine.specs.Words.{EndsWith}
use Rattle.cc_engine.specs.WordClasses.{character_value, cluster_class, last_class, value_argument, value_character}
use Rattle.cc_engine.specs.declared.walking.word_class.ValueCharacter.{ValueCharacter}
use Rattle.cc_engine.specs.declared.walking.word_class.WordClass.TheVariants.{Closed, Opens}
use Rattle.cc_engine.proofs.Forms.{empty}

past : (arguments : List Arg) (bs rest : List ℕ) (c : ℕ) → IsUtf8 bs → bs ≡ encode_utf8 c ++ rest → value_character arguments (chars bs) ≡ character_value (value_argument arguments c) (chars rest) (value_character arguments (chars rest))
past arguments bs rest c u e = ap (value_character arguments) (chars_past_char bs rest c u e)

pub past_none : (arguments : List Arg) (bs rest : List ℕ) (c : ℕ) → IsUtf8 bs → bs ≡ encode_utf8 c ++ rest → value_argument arguments c ≡ None → value_character arguments (chars bs) ≡ value_character arguments (chars rest)
past_none arguments bs rest c u e none = past arguments bs rest c u e ∙ ap (λ o. character_value o (chars rest) (value_character arguments (chars rest))) none

pub past_found : (arguments : List Arg) (bs rest : List ℕ) (c : ℕ) (a : Arg) → IsUtf8 bs → IsUtf8 rest → bs ≡ encode_utf8 c ++ rest → Some a ≡ value_argument arguments c → value_character arguments (chars bs) ≡ Some (record { argument = a; after = rest })
past_found arguments bs rest c a u v e some =
    past arguments bs rest c u e
    ∙ ap (λ o. character_value o (chars rest) (value_character arguments (chars rest))) (sym some)
    ∙ ap (λ (s : List ℕ). let found : ValueCharacter = record { argument = a; after = s } in Some found) (encodes-chars rest v)

pub past_end : (arguments : List Arg) (rest : List ℕ) → length rest ≡ 0 → value_character arguments (chars rest) ≡ None
past_end arguments rest e = ap (λ s. value_character arguments (chars s)) (nil_from_length rest e) ∙ ap (value_character arguments) chars-nil

pub ends_more : (text bs rest : List ℕ) (c : ℕ) → EndsWith text bs → bs ≡ encode_utf8 c ++ rest → EndsWith text rest
ends_more text bs rest c (leading, is) e = (leading ++ encode_utf8 c, is ∙ ap (λ s. leading ++ s) e ∙ sym (append_assoc leading (encode_utf8 c) rest))

pub opens_last : (found : ValueCharacter) → (length found.after == 0) ≡ true → cluster_class (Some found) ≡ Opens found.argument
opens_last found e = ap (last_class found.argument) (empty found.after e)

pub closed_before : (found : ValueCharacter) → (length found.after == 0) ≡ false → cluster_class (Some found) ≡ Closed
closed_before found e = by_text found.argument found.after e
  where
    by_text : (a : Arg) (s : List ℕ) → (length s == 0) ≡ false → last_class a s ≡ Closed
    by_text a [] e = cc
    by_text a (b ∷ bs) e = refl
