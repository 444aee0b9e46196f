-- The bytes of a character.
use Rattle.std.proofs.Common.{◌≡◌, ℕ, ◌<◌, ◌≤◌, ◌+◌, ◌/◌, ◌%◌, Bool, true, false, List, [], ◌∷◌, ◌++◌, length, length-append, cond, nat_lt, ap, ◌∙◌, sym, subst, ⊎_elim, arith}
use Rattle.std.specs.Char.{encode_utf8}
use Rattle.std.specs.List.{AllByRecursion}
use Rattle.std.proofs.lemmas.Bool.{cases_lt}
use Rattle.std.proofs.lemmas.Bool.Decides.{nat_tests}
use Rattle.std.proofs.lemmas.Str.{encode_ascii, length-encode, len_utf8_bounds}

-- every byte is 128 or more
abbrev pub AreHigh : List ℕ → Type 0
AreHigh bytes = AllByRecursion (λ byte. 128 ≤ byte) bytes

-- every byte is 128 or more, and there is a byte
abbrev IsHigh : List ℕ → Type 0
IsHigh [] = ⊥
IsHigh (byte ∷ bytes) = (128 ≤ byte) × AreHigh bytes

-- a character from 128 on has at least one byte, and only bytes from 128 on
high_character : (c : ℕ) → 128 ≤ c → IsHigh (encode_utf8 c)
unfolding encode_utf8
high_character c h = by_tests (nat_lt c 128) (nat_lt c 2048) (nat_lt c 65536) (grind (arith, nat_tests))
  where
    by_tests : (a b d : Bool) → a ≡ false → IsHigh (cond a (c ∷ []) (cond b ((192 + c / 64) ∷ (128 + c % 64) ∷ []) (cond d ((224 + c / 4096) ∷ (128 + (c / 64) % 64) ∷ (128 + c % 64) ∷ []) ((240 + c / 262144) ∷ (128 + (c / 4096) % 64) ∷ (128 + (c / 64) % 64) ∷ (128 + c % 64) ∷ []))))
    by_tests true b d e = cc
    by_tests false true d e = (omega arith, (omega arith, tt))
    by_tests false false true e = (omega arith, (omega arith, (omega arith, tt)))
    by_tests false false false e = (omega arith, (omega arith, (omega arith, (omega arith, tt))))

-- a character is one byte below 128, or bytes from 128 on
pub data IsCharacter : ℕ → List ℕ → Type 0 where
  low : (c : ℕ) → c < 128 → IsCharacter c (c ∷ [])
  high : (c byte : ℕ) (bytes : List ℕ) → 128 ≤ c → 128 ≤ byte → AreHigh bytes → IsCharacter c (byte ∷ bytes)

pub character : (c : ℕ) → IsCharacter c (encode_utf8 c)
character c =
    ⊎_elim {C = IsCharacter c (encode_utf8 c)}
    (λ below. subst (IsCharacter c) (sym (encode_ascii c below)) (low c below))
    (λ above. by_bytes (encode_utf8 c) above (high_character c above))
    (cases_lt c 128)
  where
    by_bytes : (bytes : List ℕ) → 128 ≤ c → IsHigh bytes → IsCharacter c bytes
    by_bytes [] above h = absurd h
    by_bytes (byte ∷ bytes) above h = high c byte bytes above h.0 h.1

-- the text after a character is shorter than the text from it on
pub shorter : (c : ℕ) (text after : List ℕ) → text ≡ encode_utf8 c ++ after → length after < length text
shorter c text after whole =
    let lengths = ap length whole ∙ length-append (encode_utf8 c) after in
    omega (arith, lengths, length-encode c, len_utf8_bounds c)
