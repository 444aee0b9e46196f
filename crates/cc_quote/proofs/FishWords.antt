-- The reader of a word reads a quoted text of fish as the text.
use Rattle.std.proofs.Common.{◌≡◌, ℕ, true, false, List, [], ◌∷◌, ◌++◌, refl, ap, ◌∙◌, sym, append_assoc, append-nil, inl, inr, Option, Some, None, ◌==◌, arith, codes}
use Rattle.std.proofs.lemmas.Bool.{cases_Bool, ne_eqb, and_parts}
use Rattle.std.proofs.lemmas.Bool.Decides.{nat_tests}
use Rattle.std.specs.List.{list_all, AllByRecursion}
use Rattle.cc_base.specs.Bytes.{backslash, dollar, double_quote, hash, single_quote, space}
use Rattle.cc_quote.specs.Escapes.{marked_byte}
use Rattle.cc_quote.specs.FishQuote.{FishState, fish_sign, next_state, advance, is_fish_safe, is_single_marked, single_escaped, is_double_marked, double_escaped, single_quoted, fish_quoted, bare, in_single, in_double}
use Rattle.cc_quote.specs.FishQuote.FishSign.{other}

-- every byte of the text needs no quotes
abbrev pub IsSafe : List ℕ → Type 0
IsSafe text = AllByRecursion (λ byte. is_fish_safe byte ≡ true) text

-- ---- one byte

-- a byte that needs no quotes differs from one that needs them
pub safe_is_not : (byte special : ℕ) → is_fish_safe byte ≡ true → is_fish_safe special ≡ false → (byte == special) ≡ false
safe_is_not byte special h f = ne_eqb byte special (λ e. let k : is_fish_safe special ≡ true = rw e at h in cc)

pub safe_sign : (byte : ℕ) → is_fish_safe byte ≡ true → fish_sign byte ≡ other
unfolding fish_sign is_fish_safe
safe_sign byte h = rw (safe_is_not byte space h refl, safe_is_not byte 9 h refl, safe_is_not byte 10 h refl, safe_is_not byte single_quote h refl, safe_is_not byte double_quote h refl, safe_is_not byte backslash h refl, safe_is_not byte dollar h refl, safe_is_not byte hash h refl)

-- between `"` no byte is escaped that needs no quotes
pub safe_double : (byte : ℕ) → is_fish_safe byte ≡ true → marked_byte is_double_marked byte ≡ byte ∷ []
unfolding is_fish_safe
safe_double byte h = rw (safe_is_not byte backslash h refl, safe_is_not byte double_quote h refl, safe_is_not byte dollar h refl)

single_byte_read : (byte : ℕ) (word rest : List ℕ) → advance (Some (in_single word)) (marked_byte is_single_marked byte ++ rest) ≡ advance (Some (in_single (word ++ byte ∷ []))) rest
unfolding fish_sign
single_byte_read byte word rest = grind (arith, nat_tests)

double_byte_read : (byte : ℕ) (word rest : List ℕ) → advance (Some (in_double word)) (marked_byte is_double_marked byte ++ rest) ≡ advance (Some (in_double (word ++ byte ∷ []))) rest
unfolding fish_sign
double_byte_read byte word rest = grind (arith, nat_tests)

-- ---- a text

-- the states over one text and then over another
pub advance-append : (bytes rest : List ℕ) (state : Option FishState) → advance state (bytes ++ rest) ≡ advance (advance state bytes) rest
advance-append [] rest state = refl
advance-append (byte ∷ bytes) [] None = refl
advance-append (byte ∷ bytes) (next ∷ rest) None = refl
advance-append (byte ∷ bytes) rest (Some state) = advance-append bytes rest (next_state state byte)

-- outside quotes, bytes that need no quotes mean themselves
pub safe_bare : (text word : List ℕ) → IsSafe text → advance (Some (bare word)) text ≡ Some (bare (word ++ text))
safe_bare [] word h = rw append-nil
safe_bare (byte ∷ text) word (h, hs) = rw (advance, safe_sign byte h) (rw append_assoc at (safe_bare text (word ++ byte ∷ []) hs))

-- an escaped text between `'`
pub single_read : (text word : List ℕ) → advance (Some (in_single word)) (single_escaped text) ≡ Some (in_single (word ++ text))
single_read [] word = rw append-nil
single_read (byte ∷ text) word = single_byte_read byte word (single_escaped text) ∙ rw append_assoc at (single_read text (word ++ byte ∷ []))

-- an escaped text between `"`
pub double_read : (text word : List ℕ) → advance (Some (in_double word)) (double_escaped text) ≡ Some (in_double (word ++ text))
double_read [] word = rw append-nil
double_read (byte ∷ text) word = double_byte_read byte word (double_escaped text) ∙ rw append_assoc at (double_read text (word ++ byte ∷ []))

-- a text whose bytes need no quotes stays as it is between `"`
pub safe_double_escaped : (text : List ℕ) → IsSafe text → double_escaped text ≡ text
safe_double_escaped [] h = refl
safe_double_escaped (byte ∷ text) (h, hs) = ap (λ bytes. bytes ++ double_escaped text) (safe_double byte h) ∙ ap (λ bytes. byte ∷ bytes) (safe_double_escaped text hs)

-- so the text means itself between two `"`
pub safe_in_double : (text word : List ℕ) → IsSafe text → advance (Some (in_double word)) text ≡ Some (in_double (word ++ text))
safe_in_double text word h = ap (advance (Some (in_double word))) (sym (safe_double_escaped text h)) ∙ double_read text word

-- a text in `'`
pub single_quoted_read : (text word : List ℕ) → advance (Some (bare word)) (single_quoted text) ≡ Some (bare (word ++ text))
unfolding fish_sign
single_quoted_read text word = advance-append (single_escaped text) (codes "'") (Some (in_single word)) ∙ ap (λ state. advance state (codes "'")) (single_read text word)

-- a text that passes the test has only bytes that need no quotes
pub safe_bytes : (text : List ℕ) → list_all is_fish_safe text ≡ true → IsSafe text
safe_bytes [] h = tt
safe_bytes (byte ∷ text) h = let parts = and_parts _ _ h in (parts.0, safe_bytes text parts.1)

-- a quoted text outside quotes
pub fish_quoted_read : (text word : List ℕ) → advance (Some (bare word)) (fish_quoted text) ≡ Some (bare (word ++ text))
unfolding fish_quoted
fish_quoted_read [] word = single_quoted_read [] word
fish_quoted_read (byte ∷ text) word = elim (cases_Bool (list_all is_fish_safe (byte ∷ text))) [
  | inl safe ↦ rw safe (safe_bare (byte ∷ text) word (safe_bytes (byte ∷ text) safe))
  | inr unsafe ↦ rw unsafe (single_quoted_read (byte ∷ text) word)
]
