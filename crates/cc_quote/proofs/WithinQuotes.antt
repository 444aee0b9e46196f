-- The reading of a text within quotes, by any reader that adds what it reads to the text so far.
use Rattle.std.proofs.Common.{◌≡◌, ℕ, Bool, true, false, not, cond, List, [], ◌∷◌, ◌++◌, map, ◌==◌, IsTrue, refl, sym, ap, ◌∙◌, append_assoc, append-nil}
use Rattle.cc_base.specs.Bytes.{single_quote, is_blank}
use Rattle.cc_quote.specs.QuotedWord.{quoted, word_from}
use Rattle.cc_quote.specs.Signs.{Sign, blank, quote, other, sign, HasNoQuote}
use Rattle.cc_quote.specs.Tokens.{Piece, cut}
use Rattle.cc_quote.specs.Tokens.QuoteState.{in_quotes}

-- within quotes whitespace is kept, and two quotes in a row mean the second
pub record ReadsQuoted {A : Type 0} (reading : List ℕ → List Sign → A) : Type 0 where
  pub of_blank : (text run : List ℕ) (rest : List Sign) → reading text (blank run ∷ rest) ≡ reading (text ++ run) rest
  pub of_other : (text run : List ℕ) (rest : List Sign) → reading text (other run ∷ rest) ≡ reading (text ++ run) rest
  pub of_quotes : (text first second : List ℕ) (rest : List Sign) → reading text (quote first ∷ quote second ∷ rest) ≡ reading (text ++ second) rest

-- the cutting of a script into tokens reads quoted texts in this way
pub cutting_reads : (pieces : List Piece) (opening : List ℕ) → ReadsQuoted (λ text rest. cut (in_quotes pieces opening text) rest)
unfolding cut
cutting_reads pieces opening = record { of_blank = λ t b s. refl; of_other = λ t b s. refl; of_quotes = λ t f s r. refl }

-- the reading of a word reads quoted texts in this way
pub word_reads : ReadsQuoted (λ word rest. word_from (quoted word) rest)
word_reads = record { of_blank = λ t b s. refl; of_other = λ t b s. refl; of_quotes = λ t f s r. refl }

module _ {A : Type 0} (reading : List ℕ → List Sign → A) (reads : ReadsQuoted reading) where
  -- a byte that is not a quote is kept
  pub kept_byte : (byte : ℕ) (rest : List Sign) (text : List ℕ) → IsTrue (not (byte == single_quote)) → reading text (sign byte ∷ rest) ≡ reading (text ++ byte ∷ []) rest
  unfolding sign
  kept_byte byte rest text h = by_tests (byte == single_quote) (is_blank byte) h
    where
      by_tests : (q b : Bool) → IsTrue (not q)
          → reading text (cond q (quote (byte ∷ [])) (cond b (blank (byte ∷ [])) (other (byte ∷ []))) ∷ rest) ≡ reading (text ++ byte ∷ []) rest
      by_tests true b p = cc
      by_tests false true p = reads.of_blank text (byte ∷ []) rest
      by_tests false false p = reads.of_other text (byte ∷ []) rest

  -- a text without a quote is kept
  pub kept_text : (kept : List ℕ) (rest : List Sign) (text : List ℕ) → HasNoQuote kept → reading text (map sign kept ++ rest) ≡ reading (text ++ kept) rest
  kept_text [] rest text h = ap (λ t. reading t rest) (sym (append-nil text))
  kept_text (byte ∷ kept) rest text h =
      kept_byte byte (map sign kept ++ rest) text h.0
      ∙ kept_text kept rest (text ++ byte ∷ []) h.1
      ∙ ap (λ t. reading t rest) (append_assoc text (byte ∷ []) kept)
