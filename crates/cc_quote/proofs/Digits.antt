-- The digits of a number mean nothing special to the readers of a POSIX shell's tokens.
use Rattle.std.proofs.Common.{◌≡◌, ℕ, zero, suc, ◌%◌, ◌/◌, ◌<◌, Bool, true, false, cond, ◌==◌, List, [], ◌∷◌, decimal, arith}
use Rattle.std.specs.Fmt.{digits, digits_onto, digit_glyph}
use Rattle.std.proofs.lemmas.Bool.Decides.{nat_tests}
use Rattle.cc_quote.specs.PosixSigns.{sign}
use Rattle.cc_quote.specs.PosixSigns.Sign.{other}
use Rattle.cc_quote.proofs.PosixCutting.{IsOther, IsWord}

digit_other : (digit : ℕ) → digit < 10 →
    sign (digit_glyph false digit) ≡ other (digit_glyph false digit)
unfolding sign
digit_other digit h = grind (arith, nat_tests)

-- the last digit, and the digits before it
last_or : (last : Bool) (first all : List ℕ) → IsWord first → IsWord all → IsWord (cond last first all)
last_or true first all h k = h
last_or false first all h k = k

digits_word : (k n : ℕ) (after : List ℕ) → IsOther after → IsWord (digits_onto (suc k) 10 false n after)
digits_word zero n after h = let d = digit_other (n % 10) (omega arith) in last_or (n / 10 == 0) _ _ (d, h) (d, h)
digits_word (suc k) n after h =
    let d = digit_other (n % 10) (omega arith) in
    last_or (n / 10 == 0) _ _ (d, h) (digits_word k (n / 10) (digit_glyph false (n % 10) ∷ after) (d, h))

-- a number is a word
pub decimal_word : (n : ℕ) → IsWord (decimal n)
unfolding digits
decimal_word n = digits_word 63 n [] tt

pub decimal_other : (n : ℕ) → IsOther (decimal n)
decimal_other n = of_word (decimal n) (decimal_word n)
  where
    of_word : (text : List ℕ) → IsWord text → IsOther text
    of_word [] h = tt
    of_word (byte ∷ text) h = h
