-- Escaped texts and words, in Elvish.
use Rattle.std.proofs.Common.{◌≡◌, ◌≢◌, ◌==◌, ℕ, suc, ◌<◌, Bool, true, false, cond, List, [], ◌∷◌, ◌++◌, map, flat_map, length, length-append, get_or, codes, Some, refl, ◌∙◌, ap, arith}
use Rattle.std.proofs.lemmas.Bool.Decides.{Decides-eqb, nat_tests}
use Rattle.std.proofs.lemmas.List.{map-append}
use Rattle.cc_base.specs.Bytes.{single_quote, is_blank}
use Rattle.cc_quote.specs.ElvishQuote.{elvish_escaped, elvish_word_of}
use Rattle.cc_quote.specs.QuotedWord.{bare, quoted, word_from, line_feeds_as_spaces, IsWithoutQuotes, IsCutAtQuote, BeginsWithQuote, BeginsWithNoQuote}
use Rattle.cc_quote.specs.Signs.{Sign, blank, quote, other, bytes, sign, HasNoQuote}
use Rattle.cc_quote.proofs.ElvishCutting.{escaped_reads}
use Rattle.cc_quote.proofs.WithinQuotes.{word_reads}
use Rattle.cc_quote.proofs.WordReading.{AreSigns}

-- an escaped text between two quotes is read as the text
pub elvish_reads_back : (text escaped : List ℕ) → escaped ≡ elvish_escaped text → elvish_word_of (codes "'" ++ escaped ++ codes "'") ≡ Some (line_feeds_as_spaces text, [])
unfolding sign
elvish_reads_back text escaped e = rw e (escaped_reads (λ w s. word_from (quoted w) s) word_reads text (single_quote ∷ []) [])

-- ---- signs

-- the sign of a byte holds that byte
pub bytes-sign : (byte : ℕ) → bytes (sign byte) ≡ byte ∷ []
unfolding sign
bytes-sign byte = by_tests (byte == single_quote) (is_blank byte)
  where
    by_tests : (q b : Bool) → bytes (cond q (quote (byte ∷ [])) (cond b (blank (byte ∷ [])) (other (byte ∷ [])))) ≡ byte ∷ []
    by_tests true b = refl
    by_tests false true = refl
    by_tests false false = refl

-- the signs of a text hold all its bytes
bytes-signs : (text : List ℕ) → flat_map bytes (map sign text) ≡ text
bytes-signs [] = refl
bytes-signs (byte ∷ text) = ap (λ bs. bs ++ flat_map bytes (map sign text)) (bytes-sign byte) ∙ ap (λ bs. byte ∷ bs) (bytes-signs text)

-- whitespace is not a quote
pub sign-blank : (byte : ℕ) → is_blank byte ≡ true → sign byte ≡ blank (byte ∷ [])
unfolding sign
sign-blank byte is = by_test (byte == single_quote) (grind (arith, nat_tests))
  where
    by_test : (q : Bool) → q ≡ false → cond q (quote (byte ∷ [])) (cond (is_blank byte) (blank (byte ∷ [])) (other (byte ∷ []))) ≡ blank (byte ∷ [])
    by_test true e = cc
    by_test false e = ap (λ b. cond b (blank (byte ∷ [])) (other (byte ∷ []))) is

-- a byte that is neither whitespace nor a quote
pub sign-other : (byte : ℕ) → is_blank byte ≡ false → ((opening : List ℕ) → sign byte ≢ quote opening) → sign byte ≡ other (byte ∷ [])
unfolding sign
sign-other byte no_blank no_quote = by_test (byte == single_quote) no_quote
  where
    by_test : (q : Bool) → ((opening : List ℕ) → cond q (quote (byte ∷ [])) (cond (is_blank byte) (blank (byte ∷ [])) (other (byte ∷ []))) ≢ quote opening)
        → cond q (quote (byte ∷ [])) (cond (is_blank byte) (blank (byte ∷ [])) (other (byte ∷ []))) ≡ other (byte ∷ [])
    by_test true h = absurd (h (byte ∷ []) refl)
    by_test false h = ap (λ b. cond b (blank (byte ∷ [])) (other (byte ∷ []))) no_blank

-- a bare word keeps each byte that is not whitespace, even a quote
pub bare_sign : (byte : ℕ) (rest : List Sign) (word : List ℕ) → is_blank byte ≡ false → word_from (bare word) (sign byte ∷ rest) ≡ word_from (bare (word ++ byte ∷ [])) rest
unfolding sign
bare_sign byte rest word no_blank = by_tests (byte == single_quote) (is_blank byte) no_blank
  where
    by_tests : (q b : Bool) → b ≡ false
        → word_from (bare word) (cond q (quote (byte ∷ [])) (cond b (blank (byte ∷ [])) (other (byte ∷ []))) ∷ rest) ≡ word_from (bare (word ++ byte ∷ [])) rest
    by_tests true b e = refl
    by_tests false true e = cc
    by_tests false false e = refl

-- the laws of the signs of an Elvish text
pub elvish_signs : AreSigns (map sign)
elvish_signs = record {
  of_none = refl;
  bytes_are = bytes-signs;
  of_blank = λ byte rest is. ap (λ s. s ∷ map sign rest) (sign-blank byte is);
  of_other = λ byte rest no_blank none. ap (λ s. s ∷ map sign rest) (sign-other byte no_blank (λ opening e. none opening (map sign rest) (ap (λ s. s ∷ map sign rest) e)));
  of_bare = λ byte rest word no_blank. bare_sign byte (map sign rest) word no_blank;
}

-- ---- the quotes of a text

-- a text holds no quote if none of its bytes is one, by index
pub none_quoted : (text : List ℕ) → ((k : ℕ) → k < length text → get_or text k 0 ≢ 39) → HasNoQuote text
none_quoted [] h = tt
none_quoted (byte ∷ text) h =
    let here : byte ≢ 39 = h 0 (omega arith) in (grind (arith, nat_tests), none_quoted text (λ k l. h (suc k) (omega arith)))

-- such a text is without quotes
pub elvish_unquoted : (text : List ℕ) → ((k : ℕ) → k < length text → get_or text k 0 ≢ 39) → IsWithoutQuotes (map sign) text
elvish_unquoted text h = record { signs_are = refl; no_quote = none_quoted text h }

-- a text that begins with such a run, followed by a quote
pub elvish_cut : (text run rest : List ℕ) → (text ≡ run ++ single_quote ∷ rest) × ((k : ℕ) → k < length run → get_or run k 0 ≢ 39) → IsCutAtQuote (map sign) text run (single_quote ∷ []) rest
unfolding sign
elvish_cut text run rest parts = record {
  signs_are = ap (map sign) parts.0 ∙ map-append sign run (single_quote ∷ rest);
  no_quote = none_quoted run parts.1;
  shorter = let len = ap length parts.0 ∙ length-append run (single_quote ∷ rest) in omega (arith, len);
}

-- a text that begins with a quote
pub elvish_begins : (text rest : List ℕ) → text ≡ single_quote ∷ rest → BeginsWithQuote (map sign) text (single_quote ∷ []) rest
unfolding sign
elvish_begins text rest e = record { whole = e; signs_are = ap (map sign) e }

-- a byte other than `'` is not a quote
pub no_quote_sign : (byte : ℕ) → byte ≢ 39 → (opening : List ℕ) (rest signs : List Sign) → sign byte ∷ signs ≢ quote opening ∷ rest
unfolding sign
no_quote_sign byte h opening rest signs = by_tests (byte == single_quote) (is_blank byte) refl
  where
    by_tests : (q b : Bool) → byte == single_quote ≡ q → cond q (quote (byte ∷ [])) (cond b (blank (byte ∷ [])) (other (byte ∷ []))) ∷ signs ≢ quote opening ∷ rest
    by_tests true b is = λ e. h ((Decides-eqb byte single_quote).0 is)
    by_tests false true is = λ e. cc
    by_tests false false is = λ e. cc

-- a text that does not begin with a quote
pub elvish_begins_none : (text : List ℕ) → ((rest : List ℕ) → text ≢ single_quote ∷ rest) → BeginsWithNoQuote (map sign) text
elvish_begins_none [] h = λ opening rest e. cc
elvish_begins_none (byte ∷ text) h = λ opening rest e. no_quote_sign byte (λ is. h text (ap (λ b. b ∷ text) is)) opening rest (map sign text) e
