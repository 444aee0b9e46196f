-- The cutting of an Elvish script, whatever follows the part that a lemma describes.
use Rattle.std.proofs.Common.{◌≡◌, ℕ, Bool, true, false, not, ◌||◌, cond, List, [], ◌∷◌, ◌++◌, map, ◌==◌, IsTrue, refl, sym, ap, ◌∙◌, append_assoc, append-nil, arith}
use Rattle.std.proofs.lemmas.Bool.Decides.{Decides-eqb}
use Rattle.std.proofs.lemmas.List.{map-append}
use Rattle.cc_base.specs.Bytes.{line_feed, space, single_quote, is_blank}
use Rattle.cc_quote.specs.ElvishQuote.{elvish_escaped, elvish_replacement}
use Rattle.cc_quote.specs.Escapes.{escaped_byte as written}
use Rattle.memchr.specs.Find.{is_byte2}
use Rattle.cc_quote.specs.ElvishTokens.{is_bare, IsBare, IsBareWord}
use Rattle.cc_quote.specs.QuotedWord.{space_for_line_feed, line_feeds_as_spaces}
use Rattle.cc_quote.specs.Signs.{Sign, blank, quote, other, sign, HasNoQuote}
use Rattle.cc_quote.specs.Tokens.{Piece, cut}
use Rattle.cc_quote.specs.Tokens.QuoteState.{between, in_bare, in_quotes}
use Rattle.cc_quote.proofs.WithinQuotes.{ReadsQuoted, kept_byte, kept_text, cutting_reads}

-- ---- outside quotes

-- a bare byte is neither a quote nor whitespace
sign-is_bare : (byte : ℕ) → IsTrue (is_bare byte) → sign byte ≡ other (byte ∷ [])
unfolding sign is_bare
sign-is_bare byte h = by_tests (byte == single_quote) (is_blank byte) h
  where
    by_tests : (q b : Bool) → IsTrue (not (q || b)) → cond q (quote (byte ∷ [])) (cond b (blank (byte ∷ [])) (other (byte ∷ []))) ≡ other (byte ∷ [])
    by_tests true b p = cc
    by_tests false true p = cc
    by_tests false false p = refl

-- a run of bare bytes within a token
pub bare_run : (run rest : List ℕ) (pieces : List Piece) (begun : List ℕ) → IsBare run
    → cut (in_bare pieces begun) (map sign (run ++ rest)) ≡ cut (in_bare pieces (begun ++ run)) (map sign rest)
unfolding cut
bare_run [] rest pieces begun h = ap (λ t. cut (in_bare pieces t) (map sign rest)) (sym (append-nil begun))
bare_run (byte ∷ run) rest pieces begun h =
    ap (λ s. cut (in_bare pieces begun) (s ∷ map sign (run ++ rest))) (sign-is_bare byte h.0)
    ∙ bare_run run rest pieces (begun ++ byte ∷ []) h.1
    ∙ ap (λ t. cut (in_bare pieces t) (map sign rest)) (append_assoc begun (byte ∷ []) run)

-- a bare word at a place where a token may begin
pub bare_word : (run rest : List ℕ) → IsBareWord run → cut between (map sign (run ++ rest)) ≡ cut (in_bare [] run) (map sign rest)
unfolding cut
bare_word [] rest h = absurd (h.0 refl)
bare_word (byte ∷ run) rest h =
    ap (λ s. cut between (s ∷ map sign (run ++ rest))) (sign-is_bare byte h.1.0) ∙ bare_run run rest [] (byte ∷ []) h.1.1

-- ---- within quotes

abbrev elvish_escaped_byte : ℕ → List ℕ
elvish_escaped_byte = written (is_byte2 single_quote line_feed) elvish_replacement

module _ {A : Type 0} (reading : List ℕ → List Sign → A) (reads : ReadsQuoted reading) where
  -- the escape of a byte is read as that byte, and a line feed as a space
  escaped_byte : (byte : ℕ) (rest text : List ℕ)
      → reading text (map sign (elvish_escaped_byte byte ++ rest)) ≡ reading (text ++ space_for_line_feed byte ∷ []) (map sign rest)
  unfolding sign
  escaped_byte byte rest text = by_tests (byte == single_quote) (byte == line_feed) refl refl
    where
      by_tests : (q l : Bool) → byte == single_quote ≡ q → byte == line_feed ≡ l
          → reading text (map sign (cond (q || l) (cond q (single_quote ∷ single_quote ∷ []) (space ∷ [])) (byte ∷ []) ++ rest)) ≡ reading (text ++ cond l space byte ∷ []) (map sign rest)
      by_tests true true e f =
          let as_quote : byte ≡ 39 = (Decides-eqb byte single_quote).0 e in
          let as_line_feed : byte ≡ 10 = (Decides-eqb byte 10).0 f in
          absurd (omega arith)
      by_tests true false e f =
          reads.of_quotes text (single_quote ∷ []) (single_quote ∷ []) (map sign rest)
          ∙ ap (λ b. reading (text ++ b ∷ []) (map sign rest)) (sym ((Decides-eqb byte single_quote).0 e))
      by_tests false true e f = reads.of_blank text (space ∷ []) (map sign rest)
      by_tests false false e f = kept_byte reading reads byte (map sign rest) text (ap not e)

  -- the escape of a text is read in the same way
  pub escaped_reads : (help rest text : List ℕ)
      → reading text (map sign (elvish_escaped help ++ rest)) ≡ reading (text ++ line_feeds_as_spaces help) (map sign rest)
  escaped_reads [] rest text = ap (λ t. reading t (map sign rest)) (sym (append-nil text))
  escaped_reads (byte ∷ help) rest text =
      ap (λ t. reading text (map sign t)) (append_assoc (elvish_escaped_byte byte) (elvish_escaped help) rest)
      ∙ escaped_byte byte (elvish_escaped help ++ rest) text
      ∙ escaped_reads help rest (text ++ space_for_line_feed byte ∷ [])
      ∙ ap (λ t. reading t (map sign rest)) (append_assoc text (space_for_line_feed byte ∷ []) (line_feeds_as_spaces help))

-- a text without a quote
pub quoted_text : (kept rest : List ℕ) (pieces : List Piece) (opening text : List ℕ) → HasNoQuote kept
    → cut (in_quotes pieces opening text) (map sign (kept ++ rest)) ≡ cut (in_quotes pieces opening (text ++ kept)) (map sign rest)
quoted_text kept rest pieces opening text h =
    ap (cut (in_quotes pieces opening text)) (map-append sign kept rest)
    ∙ kept_text (λ t s. cut (in_quotes pieces opening t) s) (cutting_reads pieces opening) kept (map sign rest) text h

-- an escaped text
pub escaped_text : (help rest : List ℕ) (pieces : List Piece) (opening text : List ℕ)
    → cut (in_quotes pieces opening text) (map sign (elvish_escaped help ++ rest)) ≡ cut (in_quotes pieces opening (text ++ line_feeds_as_spaces help)) (map sign rest)
escaped_text help rest pieces opening text =
    escaped_reads (λ t s. cut (in_quotes pieces opening t) s) (cutting_reads pieces opening) help rest text

-- ---- texts that meet the premises

-- a bare byte is not a quote
HasNoQuote-is_bare : (byte : ℕ) → IsTrue (is_bare byte) → IsTrue (not (byte == single_quote))
unfolding is_bare
HasNoQuote-is_bare byte h = by_tests (byte == single_quote) (is_blank byte) h
  where
    by_tests : (q b : Bool) → IsTrue (not (q || b)) → IsTrue (not q)
    by_tests true b p = p
    by_tests false b p = refl

-- a bare text has no quote
pub HasNoQuote-IsBare : (text : List ℕ) → IsBare text → HasNoQuote text
HasNoQuote-IsBare [] h = h
HasNoQuote-IsBare (byte ∷ text) h = (HasNoQuote-is_bare byte h.0, HasNoQuote-IsBare text h.1)

-- two texts without a quote, joined
pub HasNoQuote-append : (text more : List ℕ) → HasNoQuote text → HasNoQuote more → HasNoQuote (text ++ more)
HasNoQuote-append [] more h k = k
HasNoQuote-append (byte ∷ text) more h k = (h.0, HasNoQuote-append text more h.1 k)
