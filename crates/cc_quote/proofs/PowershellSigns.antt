-- The signs of a PowerShell text.
use Rattle.std.proofs.Common.{◌≡◌, ◌≢◌, ◌==◌, ◌&&◌, ℕ, Bool, true, false, List, [], ◌∷◌, ◌++◌, map, flat_map, refl, sym, ap, ap₂, subst, ◌∙◌, append_assoc, arith}
use Rattle.std.proofs.lemmas.Bool.{and_parts}
use Rattle.std.proofs.lemmas.Bool.Decides.{Decides-eqb, nat_tests}
use Rattle.cc_base.specs.Bytes.{right_quote, is_blank, single_quote, right_quote_first, right_quote_second, right_quote_third}
use Rattle.cc_quote.specs.PowershellQuote.{begins_second, begins_right_quote, sign_before, powershell_signs}
use Rattle.cc_quote.specs.PowershellTokens.{is_quote_first, IsUnquoted}
use Rattle.cc_quote.specs.QuotedWord.{bare, word_from, BeginsWithQuote, BeginsWithNoQuote}
use Rattle.cc_quote.specs.Signs.{quote, other, bytes, sign, HasNoQuote}
use Rattle.cc_quote.proofs.ElvishWords.{bytes-sign, sign-blank, sign-other, bare_sign, no_quote_sign}
use Rattle.cc_quote.proofs.WordReading.{AreSigns}

-- ---- U+2019

-- a byte and the text after it: U+2019 begins there, or does not
pub data Beginning : ℕ → List ℕ → Type 0 where
  right : (more : List ℕ) → Beginning right_quote_first (right_quote_second ∷ right_quote_third ∷ more)
  plain : {byte : ℕ} {rest : List ℕ} → begins_right_quote byte rest ≡ false → Beginning byte rest

-- a text that begins with the second and the third byte of U+2019
second_and_third : (text : List ℕ) → begins_second text ≡ true → (more : List ℕ) × (text ≡ right_quote_second ∷ right_quote_third ∷ more)
second_and_third [] e = cc
second_and_third (byte ∷ []) e = let parts = and_parts (byte == right_quote_second) false e in cc
second_and_third (byte ∷ next ∷ more) e =
    let parts = and_parts (byte == right_quote_second) (next == right_quote_third) e in
    (more, ap₂ (λ b n. b ∷ n ∷ more) ((Decides-eqb byte right_quote_second).0 parts.0) ((Decides-eqb next right_quote_third).0 parts.1))

-- one of the two holds
pub beginning : (byte : ℕ) (rest : List ℕ) → Beginning byte rest
beginning byte rest = by_test (begins_right_quote byte rest) refl
  where
    by_test : (b : Bool) → begins_right_quote byte rest ≡ b → Beginning byte rest
    by_test false e = plain e
    by_test true e =
        let parts = and_parts (byte == right_quote_first) (begins_second rest) e in
        let tail = second_and_third rest parts.1 in
        subst (λ b. Beginning b rest) (sym ((Decides-eqb byte right_quote_first).0 parts.0)) (subst (λ bs. Beginning right_quote_first bs) (sym tail.1) (right tail.0))

-- ---- the signs of a text by its first byte

-- a byte that does not begin U+2019 has a sign of its own
pub signs-plain : (byte : ℕ) (rest : List ℕ) → begins_right_quote byte rest ≡ false → powershell_signs (byte ∷ rest) ≡ sign byte ∷ powershell_signs rest
unfolding powershell_signs sign_before
signs-plain byte rest e = ap (λ b. sign_before b byte (powershell_signs rest)) e

-- U+2019 is one quote
pub signs-right : (more : List ℕ) → powershell_signs (right_quote_first ∷ right_quote_second ∷ right_quote_third ∷ more) ≡ quote right_quote ∷ powershell_signs more
unfolding powershell_signs sign_before sign
signs-right more = refl

-- the last two bytes of U+2019, alone
pub signs-tail : (more : List ℕ) → powershell_signs (right_quote_second ∷ right_quote_third ∷ more) ≡ other (right_quote_second ∷ []) ∷ other (right_quote_third ∷ []) ∷ powershell_signs more
unfolding powershell_signs sign_before sign
signs-tail more = refl

-- ---- laws of signs

-- the signs hold all bytes
bytes-signs : (text : List ℕ) → flat_map bytes (powershell_signs text) ≡ text
unfolding powershell_signs
bytes-signs [] = refl
bytes-signs (byte ∷ rest) = by_beginning byte rest (beginning byte rest) (bytes-signs rest)
  where
    by_beginning : (byte : ℕ) (rest : List ℕ) → Beginning byte rest → flat_map bytes (powershell_signs rest) ≡ rest → flat_map bytes (powershell_signs (byte ∷ rest)) ≡ byte ∷ rest
    by_beginning byte rest (plain e) below = ap (flat_map bytes) (signs-plain byte rest e) ∙ ap₂ ◌++◌ (bytes-sign byte) below
    by_beginning byte rest (right more) below =
        ap (flat_map bytes) (signs-right more) ∙ ap (λ bs. right_quote_first ∷ bs) (sym (ap (flat_map bytes) (signs-tail more)) ∙ below)

-- whitespace does not begin U+2019
blank-plain : (byte : ℕ) (rest : List ℕ) → is_blank byte ≡ true → begins_right_quote byte rest ≡ false
blank-plain byte rest is = let other : byte == right_quote_first ≡ false = grind (arith, nat_tests) in ap (λ b. b && begins_second rest) other

-- a byte that is not whitespace, if no quote begins there
other-plain : (byte : ℕ) (rest : List ℕ) → is_blank byte ≡ false → BeginsWithNoQuote powershell_signs (byte ∷ rest) → powershell_signs (byte ∷ rest) ≡ other (byte ∷ []) ∷ powershell_signs rest
other-plain byte rest no_blank none = by_beginning byte rest (beginning byte rest) no_blank none
  where
    by_beginning : (byte : ℕ) (rest : List ℕ) → Beginning byte rest → is_blank byte ≡ false → BeginsWithNoQuote powershell_signs (byte ∷ rest)
        → powershell_signs (byte ∷ rest) ≡ other (byte ∷ []) ∷ powershell_signs rest
    by_beginning byte rest (plain e) no_blank none =
        signs-plain byte rest e
        ∙ ap (λ s. s ∷ powershell_signs rest)
        (sign-other byte no_blank (λ opening is. none opening (powershell_signs rest) (signs-plain byte rest e ∙ ap (λ s. s ∷ powershell_signs rest) is)))
    by_beginning byte rest (right more) no_blank none = absurd (none right_quote (powershell_signs more) (signs-right more))

-- a bare word keeps each byte that is not whitespace, even one of U+2019
bare-kept : (byte : ℕ) (rest word : List ℕ) → is_blank byte ≡ false → word_from (bare word) (powershell_signs (byte ∷ rest)) ≡ word_from (bare (word ++ byte ∷ [])) (powershell_signs rest)
bare-kept byte rest word no_blank = by_beginning byte rest (beginning byte rest) no_blank
  where
    by_beginning : (byte : ℕ) (rest : List ℕ) → Beginning byte rest → is_blank byte ≡ false
        → word_from (bare word) (powershell_signs (byte ∷ rest)) ≡ word_from (bare (word ++ byte ∷ [])) (powershell_signs rest)
    by_beginning byte rest (plain e) no_blank =
        ap (word_from (bare word)) (signs-plain byte rest e) ∙ bare_sign byte (powershell_signs rest) word no_blank
    by_beginning byte rest (right more) no_blank =
        ap (word_from (bare word)) (signs-right more)
        ∙ ap (λ w. word_from (bare w) (powershell_signs more)) (sym (append_assoc (word ++ right_quote_first ∷ []) (right_quote_second ∷ []) (right_quote_third ∷ []) ∙ append_assoc word (right_quote_first ∷ []) (right_quote_second ∷ right_quote_third ∷ [])))
        ∙ ap (word_from (bare (word ++ right_quote_first ∷ []))) (sym (signs-tail more))

-- the laws of the signs of a PowerShell text
pub powershell_signs_are : AreSigns powershell_signs
unfolding powershell_signs
powershell_signs_are = record {
  of_none = refl;
  bytes_are = bytes-signs;
  of_blank = λ byte rest is. signs-plain byte rest (blank-plain byte rest is) ∙ ap (λ s. s ∷ powershell_signs rest) (sign-blank byte is);
  of_other = other-plain;
  of_bare = bare-kept;
}

-- ---- texts without a quote

-- no byte of such a text is a `'`
pub HasNoQuote-IsUnquoted : (text : List ℕ) → IsUnquoted text → HasNoQuote text
unfolding is_quote_first
HasNoQuote-IsUnquoted [] h = tt
HasNoQuote-IsUnquoted (byte ∷ text) h = let here = h.0 in (grind (arith, nat_tests), HasNoQuote-IsUnquoted text h.1)

-- each byte of such a text has its own sign, whatever follows
pub signs-unquoted : (text rest : List ℕ) → IsUnquoted text → powershell_signs (text ++ rest) ≡ map sign text ++ powershell_signs rest
unfolding is_quote_first
signs-unquoted [] rest h = refl
signs-unquoted (byte ∷ text) rest h =
    let here = h.0 in
    let other : byte == right_quote_first ≡ false = grind (arith, nat_tests) in
    signs-plain byte (text ++ rest) (ap (λ b. b && begins_second (text ++ rest)) other)
    ∙ ap (λ signs. sign byte ∷ signs) (signs-unquoted text rest h.1)

-- ---- the start of a text

-- a text that begins with a `'`
pub powershell_begins : (text rest : List ℕ) → text ≡ single_quote ∷ rest → BeginsWithQuote powershell_signs text (single_quote ∷ []) rest
unfolding powershell_signs sign_before sign
powershell_begins text rest e = record { whole = e; signs_are = ap powershell_signs e }

-- a text that begins with U+2019
pub powershell_begins_right : (text rest : List ℕ) → text ≡ right_quote ++ rest → BeginsWithQuote powershell_signs text right_quote rest
powershell_begins_right text rest e = record { whole = e; signs_are = ap powershell_signs e ∙ signs-right rest }

-- a text that begins with neither
pub powershell_begins_none : (text : List ℕ) → ((rest : List ℕ) → text ≢ single_quote ∷ rest) → ((rest : List ℕ) → text ≢ right_quote ++ rest) → BeginsWithNoQuote powershell_signs text
unfolding powershell_signs
powershell_begins_none [] h k = λ opening rest e. cc
powershell_begins_none (byte ∷ text) h k = by_beginning byte text (beginning byte text) h k
  where
    by_beginning : (byte : ℕ) (text : List ℕ) → Beginning byte text → ((rest : List ℕ) → byte ∷ text ≢ single_quote ∷ rest) → ((rest : List ℕ) → byte ∷ text ≢ right_quote ++ rest) → BeginsWithNoQuote powershell_signs (byte ∷ text)
    by_beginning byte text (plain e) h k =
        λ opening rest is. no_quote_sign byte (λ b. h text (ap (λ x. x ∷ text) b)) opening rest (powershell_signs text) (sym (signs-plain byte text e) ∙ is)
    by_beginning byte text (right more) h k = λ opening rest is. absurd (k more refl)
