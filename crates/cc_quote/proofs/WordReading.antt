-- The reading of a word in a text whose signs obey five laws.
use Rattle.std.proofs.Common.{◌≡◌, ◌≢◌, ◌⊎◌, ℕ, true, false, List, [], ◌∷◌, ◌++◌, map, flat_map, Option, Some, None, refl, sym, ap, subst, ◌∙◌, append_assoc, append-nil, inl, inr}
use Rattle.std.specs.Str.{NonePass}
use Rattle.cc_quote.specs.QuotedWord.{before, bare, quoted, after_quote, word_from, IsBareRead, IsWithoutQuotes, IsCutAtQuote, BeginsWithQuote, BeginsWithNoQuote}
use Rattle.cc_quote.specs.Signs.{Sign, blank, quote, other, bytes, sign}
use Rattle.cc_base.specs.Bytes.{is_blank, space}
use Rattle.cc_quote.proofs.Blanks.{bytes_no_blank}
use Rattle.cc_quote.proofs.WithinQuotes.{word_reads, kept_text}

-- The signs hold all bytes. Whitespace has a sign of its own, and so has any other byte at which no
-- quote begins. A bare word keeps each byte that is not whitespace, whatever its sign.
pub record AreSigns (signs : List ℕ → List Sign) : Type 0 where
  pub of_none : signs [] ≡ []
  pub bytes_are : (text : List ℕ) → flat_map bytes (signs text) ≡ text
  pub of_blank : (byte : ℕ) (rest : List ℕ) → is_blank byte ≡ true → signs (byte ∷ rest) ≡ blank (byte ∷ []) ∷ signs rest
  pub of_other : (byte : ℕ) (rest : List ℕ) → is_blank byte ≡ false → BeginsWithNoQuote signs (byte ∷ rest) → signs (byte ∷ rest) ≡ other (byte ∷ []) ∷ signs rest
  pub of_bare : (byte : ℕ) (rest word : List ℕ) → is_blank byte ≡ false → word_from (bare word) (signs (byte ∷ rest)) ≡ word_from (bare (word ++ byte ∷ [])) (signs rest)

module _ (signs : List ℕ → List Sign) (are : AreSigns signs) where
  -- ---- a quoted word

  -- a quote that no other quote follows closes the word
  closed : (rest word : List ℕ) → BeginsWithNoQuote signs rest → word_from (after_quote word) (signs rest) ≡ Some (word, rest)
  closed rest word none = by_sign (signs rest) none ∙ ap (λ bs. Some (word, bs)) (are.bytes_are rest)
    where
      by_sign : (s : List Sign) → ((opening : List ℕ) (more : List Sign) → s ≢ quote opening ∷ more) → word_from (after_quote word) s ≡ Some (word, flat_map bytes s)
      by_sign (quote run ∷ more) h = absurd (h run more refl)
      by_sign s h = refl

  -- a word ends after a run and a quote, if the text after it does not begin with a quote
  pub closes : (text run opening rest word : List ℕ) → IsCutAtQuote signs text run opening rest → BeginsWithNoQuote signs rest
      → word_from (quoted word) (signs text) ≡ Some (word ++ run, rest)
  closes text run opening rest word at none =
      ap (word_from (quoted word)) at.signs_are
      ∙ kept_text (λ w s. word_from (quoted w) s) word_reads run (quote opening ∷ signs rest) word at.no_quote
      ∙ closed rest (word ++ run) none

  -- the word continues if that text begins with a quote
  pub goes_on : (text run opening rest second next word : List ℕ) → IsCutAtQuote signs text run opening rest → BeginsWithQuote signs rest second next
      → word_from (quoted word) (signs text) ≡ word_from (quoted (word ++ run ++ second)) (signs next)
  goes_on text run opening rest second next word at doubled =
      ap (word_from (quoted word)) at.signs_are
      ∙ kept_text (λ w s. word_from (quoted w) s) word_reads run (quote opening ∷ signs rest) word at.no_quote
      ∙ ap (word_from (after_quote (word ++ run))) doubled.signs_are

  -- a quote that is not closed
  pub stays_open : (text word : List ℕ) → IsWithoutQuotes signs text → word_from (quoted word) (signs text) ≡ None
  stays_open text word h =
      ap (word_from (quoted word)) (h.signs_are ∙ sym (append-nil (map sign text)))
      ∙ kept_text (λ w s. word_from (quoted w) s) word_reads text [] word h.no_quote

  -- ---- a bare word

  -- a run without whitespace within a word
  bare_run : (run rest word : List ℕ) → NonePass is_blank run → word_from (bare word) (signs (run ++ rest)) ≡ word_from (bare (word ++ run)) (signs rest)
  bare_run [] rest word h = ap (λ w. word_from (bare w) (signs rest)) (sym (append-nil word))
  bare_run (byte ∷ run) rest word h =
      are.of_bare byte (run ++ rest) word h.0 ∙ bare_run run rest (word ++ byte ∷ []) h.1
      ∙ ap (λ w. word_from (bare w) (signs rest)) (append_assoc word (byte ∷ []) run)

  -- a bare word ends before whitespace and at the end
  bare_end : (back word : List ℕ) → (back ≡ []) ⊎ ((byte : ℕ) × (after : List ℕ) × (is_blank byte ≡ true) × (back ≡ byte ∷ after)) → word_from (bare word) (signs back) ≡ Some (word, back)
  bare_end back word (inl e) =
      subst (λ bs. word_from (bare word) (signs bs) ≡ Some (word, bs)) (sym e) (ap (word_from (bare word)) are.of_none)
  bare_end back word (inr (byte, after, is, e)) =
      subst (λ bs. word_from (bare word) (signs bs) ≡ Some (word, bs)) (sym e)
      (ap (word_from (bare word)) (are.of_blank byte after is) ∙ ap (λ bs. Some (word, byte ∷ bs)) (are.bytes_are after))

  -- a text that does not begin with a quote, cut at its first whitespace
  pub bare_word : (text : List ℕ) (read : Option (List ℕ × List ℕ)) → IsBareRead text read → BeginsWithNoQuote signs text → word_from before (signs text) ≡ read
  bare_word text None at none = by_end at.ends
    where
      by_end : (text ≡ []) ⊎ ((byte : ℕ) × (after : List ℕ) × (is_blank byte ≡ true) × (text ≡ byte ∷ after)) → word_from before (signs text) ≡ None
      by_end (inl e) = ap (λ bs. word_from before (signs bs)) e ∙ ap (word_from before) are.of_none
      by_end (inr (byte, after, is, e)) = ap (λ bs. word_from before (signs bs)) e ∙ ap (word_from before) (are.of_blank byte after is)
  bare_word text (Some ([], back)) at none = absurd (at.1 refl)
  bare_word text (Some (byte ∷ front, back)) at none =
      let clear : NonePass is_blank (byte ∷ front) = bytes_no_blank (byte ∷ front) at.0.no_blank in
      let none_here : BeginsWithNoQuote signs (byte ∷ front ++ back) = subst (λ bs. BeginsWithNoQuote signs bs) at.0.whole none in
      ap (λ bs. word_from before (signs bs)) at.0.whole
      ∙ ap (word_from before) (are.of_other byte (front ++ back) clear.0 none_here)
      ∙ bare_run front back (byte ∷ []) clear.1
      ∙ bare_end back (byte ∷ front) at.0.ends

  -- a word ends between a run without whitespace and a space
  pub word_before_space : (byte : ℕ) (run rest : List ℕ) → BeginsWithNoQuote signs (byte ∷ run ++ space ∷ rest) → NonePass is_blank (byte ∷ run)
      → word_from before (signs (byte ∷ run ++ space ∷ rest)) ≡ Some (byte ∷ run, space ∷ rest)
  word_before_space byte run rest none clear =
      ap (word_from before) (are.of_other byte (run ++ space ∷ rest) clear.0 none)
      ∙ bare_run run (space ∷ rest) (byte ∷ []) clear.1
      ∙ bare_end (space ∷ rest) (byte ∷ run) (inr (32, rest, refl, refl))
