-- The line and the column after one more byte of a text, which is not a line feed.
use Rattle.std.proofs.Common.{◌≡◌, ◌∙◌, ◌++◌, ◌+◌, ◌<◌, ℕ, Bool, false, List, [], ◌∷◌, ap, arith, cond, get_or, length, not, reverse, take}
use Rattle.std.specs.Prelude.{count_by, take_while}
use Rattle.std.proofs.lemmas.List.{reverse-append, take_more}
use Rattle.std.proofs.lemmas.List.Sums.{count_by_more_no, sum_by-cons, take_while-cons}
use Rattle.complgen_check.specs.Places.{begins_character, column_after, ends_line, line_after, on_the_line}

-- the bytes of the line, from the last one back, after one more byte
on_line : (before : List ℕ) (byte : ℕ) → ends_line byte ≡ false
    → on_the_line (before ++ byte ∷ []) ≡ byte ∷ on_the_line before
on_line before byte ends =
    ap (take_while (λ byte. not (ends_line byte))) (reverse-append before (byte ∷ []))
    ∙ take_while-cons (λ byte. not (ends_line byte)) byte (reverse before)
    ∙ ap (λ ended. cond (not ended) (byte ∷ on_the_line before) []) ends

column_more : (before : List ℕ) (byte : ℕ) (begins : Bool) → ends_line byte ≡ false
    → begins_character byte ≡ begins
    → column_after (before ++ byte ∷ []) ≡ column_after before + cond begins 1 0
column_more before byte begins ends is =
    let n = count_by begins_character (on_the_line before) in
    let same : (cond begins 1 0 + n) + 1 ≡ (n + 1) + cond begins 1 0 = omega arith in
    ap (λ line. count_by begins_character line + 1) (on_line before byte ends)
    ∙ ap (λ count. count + 1) (sum_by-cons (λ byte. cond (begins_character byte) 1 0) byte (on_the_line before))
    ∙ ap (λ b. (cond b 1 0 + n) + 1) is ∙ same

module _ (bytes : List ℕ) (i : ℕ) (inside : i < length bytes) (ends : ends_line (get_or bytes i 0) ≡ false) where
  pub line_same : line_after (take (i + 1) bytes) ≡ line_after (take i bytes)
  line_same = ap (λ n. n + 1) (count_by_more_no ends_line bytes i 0 inside ends)

  -- a character more if one begins with the byte
  pub column_next : (begins : Bool) → begins_character (get_or bytes i 0) ≡ begins
      → column_after (take (i + 1) bytes) ≡ column_after (take i bytes) + cond begins 1 0
  column_next begins is = ap column_after (take_more bytes i 0 inside)
      ∙ column_more (take i bytes) (get_or bytes i 0) begins ends is
