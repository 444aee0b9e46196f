-- Escaped texts and words, in PowerShell.
use Rattle.std.proofs.Common.{◌≡◌, ◌≢◌, ◌==◌, ◌||◌, ℕ, ◌+◌, ◌<◌, ◌≤◌, Bool, true, false, not, List, [], ◌∷◌, ◌++◌, map, length, get_or, take, drop, codes, Some, IsUtf8, refl, sym, ◌∙◌, ap, subst, arith, add-one, add-zero, append_assoc, drop-cons}
use Rattle.std.specs.Char.{encode_utf8}
use Rattle.std.specs.Str.{IsCharBoundary}
use Rattle.std.proofs.Math.Seq.{take-suc}
use Rattle.std.proofs.lemmas.Bool.{or_parts}
use Rattle.std.proofs.lemmas.Bool.Decides.{Decides-eqb}
use Rattle.std.proofs.lemmas.List.{append-nil, drop_all, get_or-drop, length-drop, map-append, take_all}
use Rattle.std.proofs.lemmas.Str.{IsUtf8-drop, IsCharBoundary-past_char, drop_past_char}
use Rattle.cc_base.specs.Bytes.{line_feed, single_quote, right_quote, right_quote_first, right_quote_second, right_quote_third}
use Rattle.cc_quote.specs.PowershellQuote.{begins_right_quote, begins_quote, powershell_escaped, powershell_word_of, sign_before, powershell_signs, is_escaped, IsFirstEscaped, HasNoQuoteBefore, IsFirstQuote}
use Rattle.cc_quote.specs.QuotedWord.{quoted, word_from, line_feeds_as_spaces, IsWithoutQuotes, IsCutAtQuote}
use Rattle.cc_quote.specs.Signs.{sign, HasNoQuote}
use Rattle.cc_quote.proofs.ElvishCutting.{HasNoQuote-append}
use Rattle.cc_quote.proofs.PowershellCutting.{escaped_reads}
use Rattle.cc_quote.proofs.PowershellSigns.{Beginning, beginning, signs-plain, powershell_begins, powershell_begins_right}
use Rattle.cc_quote.proofs.PowershellSigns.Beginning.{right, plain}
use Rattle.cc_quote.proofs.WithinQuotes.{word_reads}

-- an escaped text between two quotes is read as the text
pub powershell_reads_back : (text escaped : List ℕ) → escaped ≡ powershell_escaped text → powershell_word_of (codes "'" ++ escaped ++ codes "'") ≡ Some (line_feeds_as_spaces text, [])
unfolding powershell_signs sign_before sign
powershell_reads_back text escaped e = rw e (escaped_reads (λ w s. word_from (quoted w) s) word_reads text [] [])

-- ---- U+2019 at an index of a text

-- the bytes of U+2019
pub encoded : encode_utf8 8217 ≡ right_quote
unfolding encode_utf8
encoded = refl

module _ (text : List ℕ) (at : ℕ) (within : at < length text) (begins : begins_right_quote (get_or text at 0) (drop (at + 1) text) ≡ true) where
  -- the text after it
  stands : (rest : List ℕ) × (drop at text ≡ right_quote ++ rest)
  stands =
      by_beginning (get_or text at 0) (drop (at + 1) text) (beginning (get_or text at 0) (drop (at + 1) text)) (rw add-one (drop-cons text at 0 within)) begins
    where
      by_beginning : (byte : ℕ) (rest : List ℕ) → Beginning byte rest → drop at text ≡ byte ∷ rest → begins_right_quote byte rest ≡ true → (more : List ℕ) × (drop at text ≡ right_quote ++ more)
      by_beginning byte rest (right more) e b = (more, e)
      by_beginning byte rest (plain p) e b = cc

  spelled : drop at text ≡ encode_utf8 8217 ++ stands.0
  spelled = stands.1 ∙ ap (λ bs. bs ++ stands.0) (sym encoded)

  follows : drop (at + 3) text ≡ stands.0
  follows = drop_past_char text stands.0 at 8217 spelled

  -- the text from U+2019 on is U+2019 and the rest
  pub right_at : drop at text ≡ right_quote ++ drop (at + 3) text
  right_at = stands.1 ∙ ap (λ bs. right_quote ++ bs) (sym follows)

  -- the text may be cut after U+2019
  pub cut_after : IsUtf8 text → IsCharBoundary text (at + 3)
  cut_after utf8 =
      let byte : get_or text at 0 ≡ right_quote_first = byte_at (right_quote_second ∷ right_quote_third ∷ stands.0) stands.1 in
      let here : IsCharBoundary text at = (omega arith, λ _ _. omega arith) in
      IsCharBoundary-past_char text stands.0 at 8217 (omega arith) (IsUtf8-drop text at utf8 here) spelled
    where
      byte_at : (rest : List ℕ) → drop at text ≡ right_quote_first ∷ rest → get_or text at 0 ≡ right_quote_first
      byte_at rest e = sym (rw add-zero at (get_or-drop at text 0 0)) ∙ ap (λ bs. get_or bs 0 0) e

-- a quote other than `'` is U+2019
pub begins_right : (byte : ℕ) (rest : List ℕ) → byte ≢ 39 → begins_quote byte rest ≡ true → begins_right_quote byte rest ≡ true
begins_right byte rest no_quote h = by_test (byte == single_quote) refl h
  where
    by_test : (q : Bool) → byte == single_quote ≡ q → q || begins_right_quote byte rest ≡ true → begins_right_quote byte rest ≡ true
    by_test true e h = absurd (no_quote ((Decides-eqb byte single_quote).0 e))
    by_test false e h = h

-- an escaped character other than `'` and a line feed is U+2019
pub escaped_right : (byte : ℕ) (rest : List ℕ) → byte ≢ 39 → byte ≢ 10 → is_escaped byte rest ≡ true → begins_right_quote byte rest ≡ true
escaped_right byte rest no_quote no_line_feed h = by_test (byte == line_feed) refl h
  where
    by_test : (l : Bool) → byte == line_feed ≡ l → l || begins_quote byte rest ≡ true → begins_right_quote byte rest ≡ true
    by_test true e h = absurd (no_line_feed ((Decides-eqb byte 10).0 e))
    by_test false e h = begins_right byte rest no_quote h

-- the escape of a text whose first escaped character is U+2019
pub escaped_at_right : (text : List ℕ) (at : ℕ) → IsFirstEscaped text at → begins_right_quote (get_or text at 0) (drop (at + 1) text) ≡ true
    → powershell_escaped text ≡ take at text ++ (single_quote ∷ right_quote) ++ powershell_escaped (drop (at + 3) text)
escaped_at_right text at first begins =
    first.before
    ∙ ap (λ bs. take at text ++ powershell_escaped bs) (right_at text at first.within begins)
    ∙ sym (append_assoc (take at text) (single_quote ∷ right_quote) (powershell_escaped (drop (at + 3) text)))

-- ---- the first quote of a text

-- one index further, after a byte that does not begin a quote
pub no_quote_before : (text : List ℕ) (at : ℕ) → at < length text → HasNoQuoteBefore text at → begins_quote (get_or text at 0) (drop (at + 1) text) ≡ false → HasNoQuoteBefore text (at + 1)
no_quote_before text at within h none = record {
  signs_are =
      h.signs_are
      ∙ ap (λ bs. map sign (take at text) ++ powershell_signs bs) cut
      ∙ ap (λ s. map sign (take at text) ++ s) (signs-plain byte rest parts.1)
      ∙ sym (append_assoc (map sign (take at text)) (sign byte ∷ []) (powershell_signs rest))
      ∙ ap (λ s. s ++ powershell_signs rest) (sym (map-append sign (take at text) (byte ∷ [])))
      ∙ ap (λ run. map sign run ++ powershell_signs rest) (sym longer);
  no_quote = subst (λ run. HasNoQuote run) (sym longer) (HasNoQuote-append (take at text) (byte ∷ []) h.no_quote (ap not parts.0, tt));
}
  where
    byte : ℕ
    byte = get_or text at 0

    rest : List ℕ
    rest = drop (at + 1) text

    parts : (byte == single_quote ≡ false) × (begins_right_quote byte rest ≡ false)
    parts = or_parts (byte == single_quote) (begins_right_quote byte rest) none

    cut : drop at text ≡ byte ∷ rest
    cut = rw add-one (drop-cons text at 0 within)

    longer : take (at + 1) text ≡ take at text ++ byte ∷ []
    longer = rw add-one (take-suc text at 0 within)

-- a text without a quote before its end
pub without_quotes : (text : List ℕ) (at : ℕ) → length text ≤ at → HasNoQuoteBefore text at → IsWithoutQuotes powershell_signs text
unfolding powershell_signs
without_quotes text at past h = record {
  signs_are =
      h.signs_are
      ∙ ap (λ bs. map sign (take at text) ++ powershell_signs bs) (drop_all at text past)
      ∙ append-nil (map sign (take at text))
      ∙ ap (map sign) (take_all at text past);
  no_quote = subst (λ bs. HasNoQuote bs) (take_all at text past) h.no_quote;
}

module _ (text : List ℕ) (at : ℕ) (first : IsFirstQuote text at) where
  -- the first quote is a `'`
  pub cut_at_single : get_or text at 0 ≡ 39 → IsCutAtQuote powershell_signs text (take at text) (single_quote ∷ []) (drop (at + 1) text)
  cut_at_single e =
      let within : at < length text = first.within in
      let here : drop at text ≡ single_quote ∷ drop (at + 1) text = rw add-one (drop-cons text at 0 within) ∙ ap (λ b. b ∷ drop (at + 1) text) e in
      record {
        signs_are = first.before.signs_are ∙ ap (λ s. map sign (take at text) ++ s) (powershell_begins (drop at text) (drop (at + 1) text) here).signs_are;
        no_quote = first.before.no_quote;
        shorter = omega (arith, length-drop (at + 1) text, within);
      }

  -- it is U+2019
  pub cut_at_right : begins_right_quote (get_or text at 0) (drop (at + 1) text) ≡ true → IsCutAtQuote powershell_signs text (take at text) right_quote (drop (at + 3) text)
  cut_at_right begins =
      let within : at < length text = first.within in
      record {
        signs_are = first.before.signs_are ∙ ap (λ s. map sign (take at text) ++ s) (powershell_begins_right (drop at text) (drop (at + 3) text) (right_at text at within begins)).signs_are;
        no_quote = first.before.no_quote;
        shorter = omega (arith, length-drop (at + 3) text, within);
      }
