-- Texts that hold none of the quotes that PowerShell's script does not escape.
use Rattle.std.proofs.Common.{◌≡◌, ◌∙◌, ap, ap₂, refl, ℕ, ◌++◌, ◌==◌, nat_lt, Bool, true, false, cond, IsTrue, List, [], ◌∷◌, flat_map, Option, Some, None, arith}
use Rattle.std.specs.List.{AllByRecursion, list_all}
use Rattle.std.proofs.lemmas.Bool.{and_parts}
use Rattle.std.proofs.lemmas.Bool.Decides.{nat_tests}
use Rattle.cc_base.specs.Bytes.{line_feed, single_quote}
use Rattle.cc_command.specs.Escaped.{first_of, quote_at, quote_of_second, quote_of_third, unescaped_quote}
use Rattle.cc_quote.specs.PowershellQuote.{begins_right_quote, powershell_escaped, powershell_signs, sign_before}
use Rattle.cc_tables.specs.PowershellReader.{all_signs, sign_with}

-- a text has none of these quotes
abbrev pub IsFree : List ℕ → Type 0
IsFree text = unescaped_quote text ≡ None

-- the first byte of a text does not continue a quote
abbrev pub begins_apart : List ℕ → Bool
begins_apart [] = true
begins_apart (byte ∷ _) = nat_lt byte 128

abbrev pub IsAscii : ℕ → Type 0
IsAscii byte = IsTrue (nat_lt byte 128)

-- a free text that may follow any other
pub record IsPart (text : List ℕ) : Type 0 where
  pub free : IsFree text
  pub apart : IsTrue (begins_apart text)

first_none : (a b : Option ℕ) → first_of a b ≡ None → (a ≡ None) × (b ≡ None)
first_none None b h = (refl, h)
first_none (Some quote) b h = cc

both_none : (a b : Option ℕ) → a ≡ None → b ≡ None → first_of a b ≡ None
both_none a b h k = ap₂ first_of h k

-- the signs of a free text are the same for the reader that knows two quotes
pub signs_same : (text : List ℕ) → IsFree text → all_signs text ≡ powershell_signs text
unfolding powershell_signs
signs_same [] h = refl
signs_same (byte ∷ rest) h =
    let parts = first_none (quote_at byte rest) (unescaped_quote rest) h in
    ap (λ found. sign_with found (begins_right_quote byte rest) byte (all_signs rest)) parts.0
    ∙ ap (sign_before (begins_right_quote byte rest) byte) (signs_same rest parts.1)

-- ---- one text after another

cond_none : (test : Bool) (found : Option ℕ) → found ≡ None → cond test found None ≡ None
cond_none true found h = h
cond_none false found h = refl

ascii_no_first : (byte : ℕ) → IsAscii byte → (byte == 226) ≡ false
ascii_no_first byte h = grind (arith, nat_tests)

ascii_no_second : (byte : ℕ) → IsAscii byte → (byte == 128) ≡ false
ascii_no_second byte h = grind (arith, nat_tests)

ascii_no_third : (byte : ℕ) → IsAscii byte → quote_of_third byte ≡ None
ascii_no_third byte h =
    let a : (byte == 152) ≡ false = grind (arith, nat_tests) in
    let b : (byte == 154) ≡ false = grind (arith, nat_tests) in
    let c : (byte == 155) ≡ false = grind (arith, nat_tests) in
    rw (a, b, c) refl

-- no quote begins at an ASCII byte
ascii_at : (byte : ℕ) (rest : List ℕ) → IsAscii byte → quote_at byte rest ≡ None
ascii_at byte rest h = rw (ascii_no_first byte h) refl

second_apart : (text : List ℕ) → IsTrue (begins_apart text) → quote_of_second text ≡ None
second_apart [] h = refl
second_apart (second ∷ []) h = refl
second_apart (second ∷ third ∷ rest) h = rw (ascii_no_second second h) refl

at_append : (byte : ℕ) (rest text : List ℕ) → quote_at byte rest ≡ None → IsTrue (begins_apart text) → quote_at byte (rest ++ text) ≡ None
at_append byte [] text h k = cond_none (byte == 226) (quote_of_second text) (second_apart text k)
at_append byte (second ∷ []) [] h k = h
at_append byte (second ∷ []) (third ∷ text) h k =
    cond_none (byte == 226) (cond (second == 128) (quote_of_third third) None)
    (cond_none (second == 128) (quote_of_third third) (ascii_no_third third k))
at_append byte (second ∷ third ∷ rest) text h k = h

pub free_append : (a b : List ℕ) → IsFree a → IsPart b → IsFree (a ++ b)
free_append [] b h k = k.free
free_append (byte ∷ a) b h k =
    let parts = first_none (quote_at byte a) (unescaped_quote a) h in
    both_none (quote_at byte (a ++ b)) (unescaped_quote (a ++ b))
    (at_append byte a b parts.0 k.apart) (free_append a b parts.1 k)

-- a free text may follow an ASCII text
pub ascii_free : (a b : List ℕ) → AllByRecursion IsAscii a → IsFree b → IsFree (a ++ b)
ascii_free [] b h k = k
ascii_free (byte ∷ a) b h k =
    both_none (quote_at byte (a ++ b)) (unescaped_quote (a ++ b)) (ascii_at byte (a ++ b) h.0) (ascii_free a b h.1 k)

ascii_alone : (text : List ℕ) → AllByRecursion IsAscii text → IsFree text
ascii_alone [] h = refl
ascii_alone (byte ∷ text) h = both_none (quote_at byte text) (unescaped_quote text) (ascii_at byte text h.0) (ascii_alone text h.1)

ascii_apart : (text : List ℕ) → AllByRecursion IsAscii text → IsTrue (begins_apart text)
ascii_apart [] h = refl
ascii_apart (byte ∷ text) h = h.0

pub ascii_part : (text : List ℕ) → AllByRecursion IsAscii text → IsPart text
ascii_part text h = record { free = ascii_alone text h; apart = ascii_apart text h }

-- each byte of a text passes the test
pub ascii_bytes : (text : List ℕ) → IsTrue (list_all (λ byte. nat_lt byte 128) text) → AllByRecursion IsAscii text
ascii_bytes [] h = tt
ascii_bytes (byte ∷ text) h =
    let parts = and_parts (nat_lt byte 128) (list_all (λ byte. nat_lt byte 128) text) h in
    (parts.0, ascii_bytes text parts.1)

apart_append : (a b : List ℕ) → IsTrue (begins_apart a) → IsTrue (begins_apart b) → IsTrue (begins_apart (a ++ b))
apart_append [] b h k = k
apart_append (byte ∷ a) b h k = h

pub part_append : (a b : List ℕ) → IsPart a → IsPart b → IsPart (a ++ b)
part_append a b h k = record { free = free_append a b h.free k; apart = apart_append a b h.apart k.apart }

pub part_flat_map : {A : Type 0} (f : A → List ℕ) (items : List A) → AllByRecursion (λ item. IsPart (f item)) items → IsPart (flat_map f items)
part_flat_map f [] h = record { free = refl; apart = refl }
part_flat_map f (item ∷ items) h = part_append (f item) (flat_map f items) h.0 (part_flat_map f items h.1)

-- ---- between quotes

-- the text written for a byte, by the tests of the escape
abbrev escaped_by : Bool → Bool → Bool → ℕ → List ℕ
escaped_by is_quote is_feed is_right byte =
    cond is_quote (single_quote ∷ single_quote ∷ []) (cond is_feed (32 ∷ []) (cond is_right (single_quote ∷ byte ∷ []) (byte ∷ [])))

no_second : (byte : ℕ) (rest : List ℕ) → (byte == 128) ≡ false → quote_of_second (byte ∷ rest) ≡ None
no_second byte [] h = refl
no_second byte (third ∷ rest) h = rw h refl

one_escaped : (a b c : Bool) (byte : ℕ) → quote_of_second (escaped_by a b c byte ++ []) ≡ None
one_escaped true b c byte = refl
one_escaped false true c byte = refl
one_escaped false false true byte = refl
one_escaped false false false byte = refl

third_escaped : (a b c : Bool) (second third : ℕ) (tail : List ℕ) → cond (second == 128) (quote_of_third third) None ≡ None →
    quote_of_second (second ∷ (escaped_by a b c third ++ tail)) ≡ None
third_escaped true b c second third tail h = cond_none (second == 128) None refl
third_escaped false true c second third tail h = cond_none (second == 128) None refl
third_escaped false false true second third tail h = cond_none (second == 128) None refl
third_escaped false false false second third tail h = h

two_escaped : (a b c d e f : Bool) (second third : ℕ) (tail : List ℕ) → cond (second == 128) (quote_of_third third) None ≡ None →
    quote_of_second (escaped_by a b c second ++ (escaped_by d e f third ++ tail)) ≡ None
two_escaped true b c d e f second third tail h = refl
two_escaped false true c d e f second third tail h = no_second 32 (escaped_by d e f third ++ tail) refl
two_escaped false false true d e f second third tail h = refl
two_escaped false false false d e f second third tail h = third_escaped d e f second third tail h

second_escaped : (rest : List ℕ) → quote_of_second rest ≡ None → quote_of_second (powershell_escaped rest) ≡ None
second_escaped [] h = refl
second_escaped (second ∷ []) h =
    one_escaped (second == single_quote) (second == line_feed) (begins_right_quote second []) second
second_escaped (second ∷ third ∷ rest) h =
    two_escaped (second == single_quote) (second == line_feed) (begins_right_quote second (third ∷ rest))
    (third == single_quote) (third == line_feed) (begins_right_quote third rest) second third (powershell_escaped rest) h

cond_some : (test : Bool) (found other : Option ℕ) → (found ≡ None → other ≡ None) → cond test found None ≡ None → cond test other None ≡ None
cond_some true found other f h = f h
cond_some false found other f h = refl

at_escaped : (byte : ℕ) (rest : List ℕ) → quote_at byte rest ≡ None → quote_at byte (powershell_escaped rest) ≡ None
at_escaped byte rest h =
    cond_some (byte == 226) (quote_of_second rest) (quote_of_second (powershell_escaped rest)) (second_escaped rest) h

escaped_before : (a b c : Bool) (byte : ℕ) (tail : List ℕ) → quote_at byte tail ≡ None → IsFree tail → IsFree (escaped_by a b c byte ++ tail)
escaped_before true b c byte tail h k = k
escaped_before false true c byte tail h k = k
escaped_before false false true byte tail h k = both_none (quote_at byte tail) (unescaped_quote tail) h k
escaped_before false false false byte tail h k = both_none (quote_at byte tail) (unescaped_quote tail) h k

-- a free text stays free when it is escaped
pub escaped_free : (text : List ℕ) → IsFree text → IsFree (powershell_escaped text)
escaped_free [] h = refl
escaped_free (byte ∷ rest) h =
    let parts = first_none (quote_at byte rest) (unescaped_quote rest) h in
    escaped_before (byte == single_quote) (byte == line_feed) (begins_right_quote byte rest) byte (powershell_escaped rest)
    (at_escaped byte rest parts.0) (escaped_free rest parts.1)
