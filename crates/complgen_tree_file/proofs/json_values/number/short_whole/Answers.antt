use Rattle.std.proofs.Common.{◌≡◌, ◌∙◌, ◌^◌, ◌<◌, [], Some, ap, arith, drop, subst, sym, ◌≤◌, ◌==◌, ℕ, true, false, List, ◌++◌, length, refl}
use Rattle.std.proofs.Math.ListN.{drop_of_length-le}
use Rattle.std.specs.Str.Parse.{AllDigits, digits_value, digits_value_after}
use Rattle.std.specs.Prelude.{nat_lt, slice_index}
use Rattle.std.specs.Float.Numeral.{Parts, IsWellFormed, scan_numeral, text_of}
use Rattle.std.proofs.Math.Nat.{pow-le-pow_right}
use Rattle.std.proofs.lemmas.List.{append-nil}
use Rattle.std.proofs.lemmas.Float.Parse.{scan_numeral-text_of}
use Rattle.std.proofs.lemmas.Int.Digits.{digits_value-lt}
use Rattle.std.proofs.lemmas.Str.Parse.{digit_at}
use Rattle.serde_json.specs.Data.{unsigned}
use Rattle.serde_json.specs.Read.{number_from, number_of}
use Rattle.complgen_tree_file.proofs.json_values.number.short_whole.Goals as goal

-- the parts of a text of digits alone
abbrev whole_parts : List ℕ → Parts
whole_parts ds = record {
  whole = ds;
  point = false;
  fraction = [];
  exponent_negative = false;
  exponent = [];
  len = length ds;
}

whole_scanned : (ds : List ℕ) → AllDigits 10 ds → scan_numeral ds ≡ whole_parts ds
whole_scanned ds digits =
    let text : text_of (whole_parts ds) ≡ ds = append-nil ds in
    let formed : IsWellFormed (whole_parts ds) = record {
      whole_digits = digits;
      fraction_digits = tt;
      exponent_digits = tt;
      no_point = λ _. refl;
      no_exponent = λ _. refl;
      len_is = sym (ap length text);
    } in
    ap scan_numeral (sym text) ∙ scan_numeral-text_of (whole_parts ds) formed

from_whole : (ds : List ℕ) → nat_lt 0 (length ds) ≡ true
    → nat_lt (digits_value 10 (ds ++ [])) (2 ^ 64) ≡ true
    → number_from false (whole_parts ds) ≡ Some (unsigned (digits_value 10 (ds ++ [])))
from_whole ds some fits = rw some (rw fits refl)

below_ten : (n i : ℕ) → n < 10 ^ i → i ≤ 18 → n < 10 ^ 18
below_ten n i less few =
    let most : 10 ^ i ≤ 10 ^ 18 = pow-le-pow_right (omega arith) few in
    omega (arith, most)

no_minus : (ds : List ℕ) → AllDigits 10 ds → 0 < length ds → (slice_index ds 0 == 45) ≡ false
no_minus ds digits some =
    let digit = digit_at ds 0 digits some in
    grind (arith, digit)

short_read : (ds : List ℕ) → AllDigits 10 ds → 0 < length ds → length ds ≤ 18
    → number_of ds ≡ Some (unsigned (digits_value 10 ds))
unfolding number_of
short_read ds digits some few =
    let whole : ds ++ [] ≡ ds = append-nil ds in
    let small : digits_value 10 ds < 10 ^ 18 =
    below_ten (digits_value 10 ds) (length ds) (digits_value-lt 10 ds digits) few in
    let fits : nat_lt (digits_value 10 (ds ++ [])) (2 ^ 64) ≡ true = rw whole (grind (arith, small)) in
    let read : number_of ds ≡ number_from false (scan_numeral ds) = rw (no_minus ds digits some) in
    read ∙ ap (number_from false) (whole_scanned ds digits)
    ∙ from_whole ds (grind (arith, some)) fits
    ∙ ap (λ ds. Some (unsigned (digits_value 10 ds))) whole

pub overflow_mul-number : goal.overflow_mul-number
overflow_mul-number c =
    let l = c.loop-byte in
    let small : l.number < 10 ^ 18 = below_ten l.number l.byte-index l.invariant.bound (omega arith) in
    omega (arith, small)

pub overflow_add-number : goal.overflow_add-number
overflow_add-number c =
    let l = c.loop-byte in
    let small : l.number < 10 ^ 18 = below_ten l.number l.byte-index l.invariant.bound (omega arith) in
    omega (arith, small)

pub returns : goal.returns
returns c =
    let l = c.loop-byte in
    let ds = c.args.bytes.now in
    let left : drop l.byte-index ds ≡ [] = drop_of_length-le ds c.loop-byte-test.false in
    let number : l.number ≡ digits_value 10 ds =
    ap (digits_value_after 10 l.number) (sym left) ∙ l.invariant.value in
    let digits : AllDigits 10 ds = l.invariant.digits (subst (AllDigits 10) (sym left) tt) in
    short_read ds digits (grind arith) c.if-bytes-gt-MOST_DIGITS.false
    ∙ ap (λ n. Some (unsigned n)) (sym number)
