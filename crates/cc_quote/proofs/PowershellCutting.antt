-- The cutting of a PowerShell script, whatever follows the part that a lemma describes.
use Rattle.std.proofs.Common.{◌≡◌, ℕ, Bool, true, false, not, ◌&&◌, cond, List, [], ◌∷◌, ◌++◌, ◌==◌, refl, sym, ap, ◌∙◌, append_assoc, append-nil, arith}
use Rattle.std.proofs.lemmas.Bool.{and_parts}
use Rattle.std.proofs.lemmas.Bool.Decides.{Decides-eqb}
use Rattle.cc_base.specs.Bytes.{line_feed, space, single_quote, right_quote_second, right_quote_third, right_quote, right_quote_first}
use Rattle.cc_quote.specs.PowershellQuote.{begins_third, begins_second, begins_right_quote, powershell_escaped_byte, powershell_escaped, sign_before, powershell_signs}
use Rattle.cc_quote.specs.PowershellTokens.{IsUnquoted}
use Rattle.cc_quote.specs.QuotedWord.{space_for_line_feed, line_feeds_as_spaces}
use Rattle.cc_quote.specs.Signs.{Sign, sign}
use Rattle.cc_quote.specs.Tokens.{Piece, cut}
use Rattle.cc_quote.specs.Tokens.QuoteState.{in_quotes}
use Rattle.cc_quote.proofs.PowershellSigns.{Beginning, beginning, signs-plain, signs-unquoted, HasNoQuote-IsUnquoted}
use Rattle.cc_quote.proofs.PowershellSigns.Beginning.{right, plain}
use Rattle.cc_quote.proofs.WithinQuotes.{ReadsQuoted, kept_byte, kept_text, cutting_reads}

-- the byte for which a test holds
is : (byte value : ℕ) → byte == value ≡ true → byte ≡ value
is byte value e = (Decides-eqb byte value).0 e

-- ---- an escaped text begins with the bytes of U+2019 if and only if the text does

-- the text written for a byte, by the three tests
abbrev by_tests : ℕ → Bool → Bool → Bool → List ℕ
by_tests byte q l r = cond q (single_quote ∷ single_quote ∷ []) (cond l (space ∷ []) (cond r (single_quote ∷ byte ∷ []) (byte ∷ [])))

-- begins with the third byte
escaped-third : (text rest : List ℕ) → begins_third (powershell_escaped text ++ single_quote ∷ rest) ≡ begins_third text
escaped-third [] rest = refl
escaped-third (byte ∷ text) rest = go (byte == single_quote) (byte == line_feed) (begins_right_quote byte text) refl refl refl
  where
    go : (q l r : Bool) → byte == single_quote ≡ q → byte == line_feed ≡ l → begins_right_quote byte text ≡ r
        → begins_third ((by_tests byte q l r ++ powershell_escaped text) ++ single_quote ∷ rest) ≡ byte == right_quote_third
    go true l r e f g = sym (ap (λ b. b == right_quote_third) (is byte 39 e))
    go false true r e f g = sym (ap (λ b. b == right_quote_third) (is byte 10 f))
    go false false true e f g = sym (ap (λ b. b == right_quote_third) (is byte right_quote_first (and_parts (byte == right_quote_first) (begins_second text) g).0))
    go false false false e f g = refl

-- begins with the second and the third byte
escaped-second : (text rest : List ℕ) → begins_second (powershell_escaped text ++ single_quote ∷ rest) ≡ begins_second text
escaped-second [] rest = refl
escaped-second (byte ∷ text) rest = go (byte == single_quote) (byte == line_feed) (begins_right_quote byte text) refl refl refl
  where
    none : (value : ℕ) → byte ≡ value → value == right_quote_second ≡ false → false ≡ byte == right_quote_second && begins_third text
    none value e f = sym (ap (λ b. b == right_quote_second && begins_third text) e ∙ ap (λ t. t && begins_third text) f)

    go : (q l r : Bool) → byte == single_quote ≡ q → byte == line_feed ≡ l → begins_right_quote byte text ≡ r
        → begins_second ((by_tests byte q l r ++ powershell_escaped text) ++ single_quote ∷ rest) ≡ byte == right_quote_second && begins_third text
    go true l r e f g = none 39 (is byte 39 e) refl
    go false true r e f g = none 10 (is byte 10 f) refl
    go false false true e f g = none right_quote_first (is byte right_quote_first (and_parts (byte == right_quote_first) (begins_second text) g).0) refl
    go false false false e f g = ap (λ t. byte == right_quote_second && t) (escaped-third text rest)

-- ---- within quotes

module _ {A : Type 0} (reading : List ℕ → List Sign → A) (reads : ReadsQuoted reading) where
  -- a text without a quote is kept
  pub unquoted_reads : (kept rest text : List ℕ) → IsUnquoted kept → reading text (powershell_signs (kept ++ rest)) ≡ reading (text ++ kept) (powershell_signs rest)
  unquoted_reads kept rest text h =
      ap (reading text) (signs-unquoted kept rest h) ∙ kept_text reading reads kept (powershell_signs rest) text (HasNoQuote-IsUnquoted kept h)

  -- two `'` are read as one
  quotes_read : (rest text : List ℕ) → reading text (powershell_signs (single_quote ∷ single_quote ∷ rest)) ≡ reading (text ++ single_quote ∷ []) (powershell_signs rest)
  unfolding powershell_signs sign_before sign
  quotes_read rest text = reads.of_quotes text (single_quote ∷ []) (single_quote ∷ []) (powershell_signs rest)

  -- U+2019 after a `'` is kept
  right_reads : (more text : List ℕ) → reading text (powershell_signs (single_quote ∷ right_quote_first ∷ right_quote_second ∷ right_quote_third ∷ more)) ≡ reading (text ++ right_quote_first ∷ []) (powershell_signs (right_quote_second ∷ right_quote_third ∷ more))
  unfolding powershell_signs sign_before sign
  right_reads more text =
      reads.of_quotes text (single_quote ∷ []) right_quote (powershell_signs more)
      ∙ ap (λ t. reading t (powershell_signs more)) (sym (append_assoc (text ++ right_quote_first ∷ []) (right_quote_second ∷ []) (right_quote_third ∷ []) ∙ append_assoc text (right_quote_first ∷ []) (right_quote_second ∷ right_quote_third ∷ [])))
      ∙ sym (reads.of_other ((text ++ right_quote_first ∷ []) ++ right_quote_second ∷ []) (right_quote_third ∷ []) (powershell_signs more))
      ∙ sym (reads.of_other (text ++ right_quote_first ∷ []) (right_quote_second ∷ []) (powershell_signs (right_quote_third ∷ more)))

  -- a line feed is read as a space
  line_feed_reads : (rest text : List ℕ) → reading text (powershell_signs (space ∷ rest)) ≡ reading (text ++ space ∷ []) (powershell_signs rest)
  unfolding powershell_signs sign_before sign
  line_feed_reads rest text = reads.of_blank text (space ∷ []) (powershell_signs rest)

  -- so the escape of a byte is read as that byte
  escaped_byte : (byte : ℕ) (help rest text : List ℕ)
      → reading text (powershell_signs (powershell_escaped_byte byte help ++ (powershell_escaped help ++ single_quote ∷ rest)))
      ≡ reading (text ++ space_for_line_feed byte ∷ []) (powershell_signs (powershell_escaped help ++ single_quote ∷ rest))
  escaped_byte byte help rest text = by_beginning byte help (beginning byte help)
    where
      after : List ℕ → List ℕ
      after help = powershell_escaped help ++ single_quote ∷ rest

      Read : ℕ → List ℕ → Type 0
      Read byte help = reading text (powershell_signs (powershell_escaped_byte byte help ++ after help))
          ≡ reading (text ++ space_for_line_feed byte ∷ []) (powershell_signs (after help))

      plain_read : (byte : ℕ) (help : List ℕ) → begins_right_quote byte help ≡ false → (q l : Bool) → byte == single_quote ≡ q → byte == line_feed ≡ l
          → reading text (powershell_signs (by_tests byte q l (begins_right_quote byte help) ++ after help)) ≡ reading (text ++ cond l space byte ∷ []) (powershell_signs (after help))
      plain_read byte help g true true e f = let as_quote : byte ≡ 39 = is byte 39 e in let as_line_feed : byte ≡ 10 = is byte 10 f in absurd (omega arith)
      plain_read byte help g true false e f =
          quotes_read (after help) text ∙ ap (λ b. reading (text ++ b ∷ []) (powershell_signs (after help))) (sym (is byte 39 e))
      plain_read byte help g false true e f = line_feed_reads (after help) text
      plain_read byte help g false false e f =
          ap (λ r. reading text (powershell_signs (cond r (single_quote ∷ byte ∷ []) (byte ∷ []) ++ after help))) g
          ∙ ap (reading text) (signs-plain byte (after help) (ap (λ t. byte == right_quote_first && t) (escaped-second help rest) ∙ g))
          ∙ kept_byte reading reads byte (powershell_signs (after help)) text (ap not e)

      by_beginning : (byte : ℕ) (help : List ℕ) → Beginning byte help → Read byte help
      by_beginning byte help (plain g) = plain_read byte help g (byte == single_quote) (byte == line_feed) refl refl
      by_beginning byte help (right more) = right_reads (after more) text

  -- an escaped text, up to a `'`
  pub escaped_reads : (help rest text : List ℕ)
      → reading text (powershell_signs (powershell_escaped help ++ single_quote ∷ rest)) ≡ reading (text ++ line_feeds_as_spaces help) (powershell_signs (single_quote ∷ rest))
  escaped_reads [] rest text = ap (λ t. reading t (powershell_signs (single_quote ∷ rest))) (sym (append-nil text))
  escaped_reads (byte ∷ help) rest text =
      ap (λ t. reading text (powershell_signs t)) (append_assoc (powershell_escaped_byte byte help) (powershell_escaped help) (single_quote ∷ rest))
      ∙ escaped_byte byte help rest text
      ∙ escaped_reads help rest (text ++ space_for_line_feed byte ∷ [])
      ∙ ap (λ t. reading t (powershell_signs (single_quote ∷ rest))) (append_assoc text (space_for_line_feed byte ∷ []) (line_feeds_as_spaces help))

-- a text without a quote
pub quoted_text : (kept rest : List ℕ) (pieces : List Piece) (opening text : List ℕ) → IsUnquoted kept
    → cut (in_quotes pieces opening text) (powershell_signs (kept ++ rest)) ≡ cut (in_quotes pieces opening (text ++ kept)) (powershell_signs rest)
quoted_text kept rest pieces opening text h =
    unquoted_reads (λ t s. cut (in_quotes pieces opening t) s) (cutting_reads pieces opening) kept rest text h

-- an escaped text, up to a `'`
pub escaped_text : (help rest : List ℕ) (pieces : List Piece) (opening text : List ℕ)
    → cut (in_quotes pieces opening text) (powershell_signs (powershell_escaped help ++ single_quote ∷ rest))
    ≡ cut (in_quotes pieces opening (text ++ line_feeds_as_spaces help)) (powershell_signs (single_quote ∷ rest))
escaped_text help rest pieces opening text =
    escaped_reads (λ t s. cut (in_quotes pieces opening t) s) (cutting_reads pieces opening) help rest text

-- ---- texts that meet the premises
