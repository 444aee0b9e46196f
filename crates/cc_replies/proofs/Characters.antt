-- The characters of a text, and its beginning.
use Rattle.std.proofs.Common.{◌≡◌, ◌==◌, ◌≤◌, ◌<◌, ◌+◌, ◌-◌, ℕ, Bool, true, false, cond, List, [], ◌∷◌, ◌++◌, length, get_or, take, drop, ◌∙◌, ap, arith, refl, add-one, drop-cons, take-suc, append-nil, append_assoc}
use Rattle.std.proofs.Math.ListN.{drop_of_length-le}
use Rattle.std.proofs.lemmas.Bool.{ne_eqb}
use Rattle.std.proofs.lemmas.Bool.Decides.{nat_tests}
use Rattle.std.specs.Fmt.{char_count, is_char_start, take_chars}
use Rattle.std.specs.List.{AllByRecursion}
use Rattle.std.specs.Prelude.{nat_le}
use Rattle.cc_quote.specs.Escapes.{escaped_by, escaped_byte}

pub char_count-cons : (byte : ℕ) (text : List ℕ) → char_count (byte ∷ text) ≡ cond (is_char_start byte) 1 0 + char_count text
unfolding char_count
char_count-cons byte text = refl

pub char_count-nil : char_count [] ≡ 0
unfolding char_count
char_count-nil = refl

pub char_count_one : (byte : ℕ) (starts : Bool) → is_char_start byte ≡ starts → cond starts 1 0 ≡ char_count (byte ∷ [])
char_count_one byte starts is =
    let one = char_count-cons byte [] ∙ ap (λ b. cond b 1 0 + char_count []) is in
    omega (arith, one, char_count-nil)

-- the characters of two texts together
pub char_count-append : (front back : List ℕ) → char_count (front ++ back) ≡ char_count front + char_count back
char_count-append [] back = omega (arith, char_count-nil)
char_count-append (byte ∷ front) back =
    omega (arith, char_count-cons byte (front ++ back), char_count-cons byte front, char_count-append front back)

-- the columns that remain after two texts
pub left_after_both : (left : ℕ) (front back : List ℕ) → left - char_count front - char_count back ≡ left - char_count (front ++ back)
left_after_both left front back = omega (arith, char_count-append front back)

-- a property of all bytes also holds for those of the first characters
pub take_chars_all : (P : ℕ → Type 0) (n : ℕ) (text : List ℕ) → AllByRecursion P text → AllByRecursion P (take_chars n text)
unfolding take_chars
take_chars_all P n [] h = tt
take_chars_all P n (byte ∷ text) h = by (is_char_start byte) (n == 0) (take_chars_all P (n - 1) text h.1) (take_chars_all P n text h.1)
  where
    by : (starts none : Bool) → AllByRecursion P (take_chars (n - 1) text) → AllByRecursion P (take_chars n text)
        → AllByRecursion P (cond starts (cond none [] (byte ∷ take_chars (n - 1) text)) (byte ∷ take_chars n text))
    by true true fewer same = tt
    by true false fewer same = (h.0, fewer)
    by false none fewer same = (h.0, same)

-- ---- the search for the end of the first characters

take_chars-cons : (n byte : ℕ) (text : List ℕ)
    → take_chars n (byte ∷ text) ≡ cond (is_char_start byte) (cond (n == 0) [] (byte ∷ take_chars (n - 1) text)) (byte ∷ take_chars n text)
unfolding take_chars
take_chars-cons n byte text = refl

pub take_chars-nil : (n : ℕ) → take_chars n [] ≡ []
unfolding take_chars
take_chars-nil n = refl

module _ (text : List ℕ) (i : ℕ) (within : i < length text) where
  pub char_count-drop : char_count (drop i text) ≡ cond (is_char_start (get_or text i 0)) 1 0 + char_count (drop (i + 1) text)
  char_count-drop = rw (add-one, drop-cons text i 0 within, char_count-cons)

  -- the byte at i begins the first character that is cut off
  pub take_chars_stops : is_char_start (get_or text i 0) ≡ true → take i text ++ take_chars 0 (drop i text) ≡ take i text
  take_chars_stops starts = rw (drop-cons text i 0 within, take_chars-cons, starts) (append-nil _)

  -- or it is kept, and counts if it begins a character
  pub take_chars_keeps : (n m : ℕ) (starts : Bool) → is_char_start (get_or text i 0) ≡ starts → n ≡ cond starts 1 0 + m
      → take (i + 1) text ++ take_chars m (drop (i + 1) text) ≡ take i text ++ take_chars n (drop i text)
  take_chars_keeps n m true is count =
      let left : n - 1 ≡ m = omega arith in
      let some = ne_eqb n 0 (omega arith) in
      rw (add-one, take-suc text i 0 within, append_assoc, drop-cons text i 0 within, take_chars-cons, is, some, left)
  take_chars_keeps n m false is count =
      let left : n ≡ m = omega arith in
      rw (add-one, take-suc text i 0 within, append_assoc, drop-cons text i 0 within, take_chars-cons, is, left)

-- the text has more characters, if the search stops before its end
pub not_whole : (at len total count rest : ℕ) → at < len → 1 ≤ rest → rest + count ≡ total → (at == len) ≡ nat_le total count
not_whole at len total count rest within some sum = grind (arith, nat_tests)

pub whole : (len total count left : ℕ) → count ≡ total + left → (len == len) ≡ nat_le total count
whole len total count left sum = grind (arith, nat_tests)

-- ---- columns, byte by byte

pub char_count_end : (text : List ℕ) (i : ℕ) → length text ≤ i → char_count (drop i text) ≡ 0
char_count_end text i past = ap char_count (drop_of_length-le text past) ∙ char_count-nil

next_byte : (text : List ℕ) (i : ℕ) → i < length text → drop i text ≡ get_or text i 0 ∷ drop (i + 1) text
next_byte text i within = rw add-one (drop-cons text i 0 within)

pub char_count_next : (text : List ℕ) (i : ℕ) → i < length text → char_count (drop i text) ≡ char_count (get_or text i 0 ∷ []) + char_count (drop (i + 1) text)
char_count_next text i within = ap char_count (next_byte text i within) ∙ char_count-append (get_or text i 0 ∷ []) (drop (i + 1) text)

module _ (escapes : ℕ → Bool) (replacement : ℕ → List ℕ) where
  pub escaped_end : (text : List ℕ) (i : ℕ) → length text ≤ i → char_count (escaped_by escapes replacement (drop i text)) ≡ 0
  escaped_end text i past = ap (λ t. char_count (escaped_by escapes replacement t)) (drop_of_length-le text past) ∙ char_count-nil

  pub escaped_next : (text : List ℕ) (i : ℕ) → i < length text
      → char_count (escaped_by escapes replacement (drop i text)) ≡ char_count (escaped_byte escapes replacement (get_or text i 0)) + char_count (escaped_by escapes replacement (drop (i + 1) text))
  escaped_next text i within =
      ap (λ t. char_count (escaped_by escapes replacement t)) (next_byte text i within)
      ∙ char_count-append (escaped_byte escapes replacement (get_or text i 0)) (escaped_by escapes replacement (drop (i + 1) text))
