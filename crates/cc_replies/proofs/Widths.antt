-- A short text of digits spells a number.
use Rattle.std.proofs.Common.{◌≡◌, ◌==◌, ◌≤◌, ◌<◌, ◌^◌, ℕ, true, false, cond, Some, None, List, [], ◌∷◌, length, drop, sym, ◌∙◌, ap, arith, refl}
use Rattle.std.proofs.Math.Nat.{pow-le-pow_right}
use Rattle.std.proofs.lemmas.Bool.{and_parts}
use Rattle.std.proofs.lemmas.Bool.Decides.{nat_tests}
use Rattle.std.proofs.lemmas.Int.Digits.{digits_value-lt}
use Rattle.std.specs.Char.{digit_value, is_ascii_digit}
use Rattle.std.specs.Int.{is_in_range}
use Rattle.std.specs.List.{list_all}
use Rattle.std.specs.Str.Parse.{AllDigits, digits_value, without_leading_plus}
use Rattle.cc_replies.specs.Environment.{IsNumberOf, WritesIndex, is_short_number, short_number}

digit_low : (byte : ℕ) → is_ascii_digit byte ≡ true → digit_value byte < 10
digit_low byte e = grind (arith, nat_tests)

no_plus : (byte : ℕ) → is_ascii_digit byte ≡ true → (byte == 43) ≡ false
no_plus byte e = grind (arith, nat_tests)

all_digits : (text : List ℕ) → list_all is_ascii_digit text ≡ true → AllDigits 10 text
all_digits [] e = tt
all_digits (byte ∷ text) e =
    let parts = and_parts (is_ascii_digit byte) (list_all is_ascii_digit text) e in
    (digit_low byte parts.0, all_digits text parts.1)

bare : (text : List ℕ) → list_all is_ascii_digit text ≡ true → without_leading_plus text ≡ text
bare [] e = refl
bare (byte ∷ text) e =
    ap (λ b. drop (cond b 1 0) (byte ∷ text))
    (no_plus byte (and_parts (is_ascii_digit byte) (list_all is_ascii_digit text) e).0)

in_range : (n : ℕ) → is_in_range 1 5 n ≡ true → (0 < n) × (n ≤ 5)
in_range n e = (grind (arith, nat_tests), grind (arith, nat_tests))

fits : (value count : ℕ) → value < 10 ^ count → count ≤ 5 → value < 2 ^ 64
fits value count less few =
    let most : 10 ^ count ≤ 10 ^ 5 = pow-le-pow_right (omega arith) few in
    omega (arith, most)

pub short_reads : (text : List ℕ) (number : ℕ) → is_short_number text ≡ true → IsNumberOf text number → Some number ≡ short_number text
short_reads text number e is =
    let parts = and_parts (is_in_range 1 5 (length text)) (list_all is_ascii_digit text) e in
    let range = in_range (length text) parts.0 in
    let digits = all_digits text parts.1 in
    let same = bare text parts.1 in
    let writes : WritesIndex text =
    rw same ((range.0, digits), fits (digits_value 10 text) (length text) (digits_value-lt 10 text digits) range.1) in
    ap (λ n. Some n) (is.number writes ∙ ap (digits_value 10) same)
    ∙ sym (ap (λ b. cond b (Some (digits_value 10 text)) None) e)
