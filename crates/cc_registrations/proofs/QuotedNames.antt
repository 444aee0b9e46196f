-- Quoted words of fish, Elvish and PowerShell before the text that follows them in a list of names.
use Rattle.std.proofs.Common.{◌≡◌, ◌==◌, ℕ, Bool, true, false, not, cond, List, [], ◌∷◌, ◌++◌, map, Some, None, codes, inl, inr, refl, sym, ◌∙◌, ap, append_assoc, append-nil}
use Rattle.std.specs.List.{list_all}
use Rattle.std.proofs.lemmas.Bool.{cases_Bool}
use Rattle.std.proofs.lemmas.Bool.Decides.{Decides-eqb}
use Rattle.cc_base.specs.Bytes.{line_feed, single_quote, space}
use Rattle.cc_quote.specs.ElvishQuote.{elvish_word_of}
use Rattle.cc_quote.specs.Escapes.{replace_byte}
use Rattle.cc_quote.specs.FishQuote.{bare, begins_with_word, fish_quoted, fish_sign, fish_word_from, fish_word_of, is_fish_safe}
use Rattle.cc_quote.specs.QuotedWord.{after_quote, quoted, word_from}
use Rattle.cc_quote.specs.Signs.{sign}
use Rattle.cc_quote.proofs.ElvishWords.{elvish_signs}
use Rattle.cc_quote.proofs.FishReaders.{word_goes_on}
use Rattle.cc_quote.proofs.FishWords.{safe_sign, safe_bytes, fish_quoted_read}
use Rattle.cc_quote.proofs.WithinQuotes.{kept_byte, word_reads}
use Rattle.cc_registrations.specs.AllQuotes.{all_escaped, all_quotes_word_of, all_signs, sign_with}
use Rattle.cc_registrations.specs.Names.{elvish_quoted, powershell_quoted, quoted_by}
use Rattle.cc_registrations.proofs.AllQuotesReading.{all_escaped_reads, bytes_signs}

-- ---- fish

begins : (text rest : List ℕ) → begins_with_word (fish_quoted text ++ rest) ≡ true
unfolding fish_quoted fish_sign
begins [] rest = refl
begins (byte ∷ text) rest = elim (cases_Bool (list_all is_fish_safe (byte ∷ text))) [
  | inl safe ↦ rw safe (rw (safe_sign byte (safe_bytes (byte ∷ text) safe).0) refl)
  | inr unsafe ↦ rw unsafe refl
]

-- a quoted word before a line feed
pub fish_before_line_feed : (text rest : List ℕ) → fish_word_of (fish_quoted text ++ line_feed ∷ rest) ≡ Some (text, line_feed ∷ rest)
unfolding fish_sign
fish_before_line_feed text rest =
    ap (λ b. cond b (fish_word_from (bare []) (fish_quoted text ++ line_feed ∷ rest)) None) (begins text (line_feed ∷ rest))
    ∙ word_goes_on (fish_quoted text) (bare []) (bare text) (line_feed ∷ rest) (fish_quoted_read text [])

-- ---- Elvish

-- a text with `''` for each `'`
abbrev doubled : List ℕ → List ℕ
doubled text = replace_byte single_quote (codes "''") text

-- within quotes it is read as the text
doubled_reads : (text rest word : List ℕ) → word_from (quoted word) (map sign (doubled text ++ rest)) ≡ word_from (quoted (word ++ text)) (map sign rest)
unfolding sign
doubled_reads [] rest word = ap (λ w. word_from (quoted w) (map sign rest)) (sym (append-nil word))
doubled_reads (byte ∷ text) rest word = by_test (byte == single_quote) refl ∙ doubled_reads text rest (word ++ byte ∷ []) ∙ ap (λ w. word_from (quoted w) (map sign rest)) (append_assoc word (byte ∷ []) text)
  where
    by_test : (q : Bool) → byte == single_quote ≡ q
        → word_from (quoted word) (map sign ((cond q (codes "''") (byte ∷ []) ++ doubled text) ++ rest)) ≡ word_from (quoted (word ++ byte ∷ [])) (map sign (doubled text ++ rest))
    by_test true e = ap (λ b. word_from (quoted (word ++ b ∷ [])) (map sign (doubled text ++ rest))) (sym ((Decides-eqb byte single_quote).0 e))
    by_test false e = kept_byte (λ w s. word_from (quoted w) s) word_reads byte (map sign (doubled text ++ rest)) word (ap not e)

-- a quoted word before a byte at which it ends
module _ (end : ℕ) (rest : List ℕ)
    (ends : (word : List ℕ) → word_from (after_quote word) (map sign (end ∷ rest)) ≡ Some (word, end ∷ rest)) where
  pub elvish_before : (text : List ℕ) → elvish_word_of (elvish_quoted text ++ end ∷ rest) ≡ Some (text, end ∷ rest)
  unfolding elvish_quoted sign
  elvish_before text =
      ap (λ t. elvish_word_of (single_quote ∷ t)) (append_assoc (doubled text) (codes "'") (end ∷ rest))
      ∙ doubled_reads text (single_quote ∷ end ∷ rest) []
      ∙ ends text

  pub elvish_quoted_before : (text : List ℕ) → quoted_by elvish_word_of (elvish_quoted text ++ end ∷ rest) ≡ Some (text, end ∷ rest)
  unfolding elvish_quoted
  elvish_quoted_before text = elvish_before text

-- a quoted word ends at a space, and also at `]`
pub elvish_ends_at_space : (rest word : List ℕ) → word_from (after_quote word) (map sign (space ∷ rest)) ≡ Some (word, space ∷ rest)
unfolding sign
elvish_ends_at_space rest word = ap (λ bs. Some (word, space ∷ bs)) (elvish_signs.bytes_are rest)

pub elvish_ends_at_bracket : (rest word : List ℕ) → word_from (after_quote word) (map sign (93 ∷ rest)) ≡ Some (word, 93 ∷ rest)
unfolding sign
elvish_ends_at_bracket rest word = ap (λ bs. Some (word, 93 ∷ bs)) (elvish_signs.bytes_are rest)

-- ---- PowerShell

module _ (end : ℕ) (rest : List ℕ)
    (ends : (word : List ℕ) → word_from (after_quote word) (all_signs (end ∷ rest)) ≡ Some (word, end ∷ rest)) where
  pub powershell_before : (text : List ℕ) → all_quotes_word_of (powershell_quoted text ++ end ∷ rest) ≡ Some (text, end ∷ rest)
  unfolding powershell_quoted all_signs sign_with sign
  powershell_before text =
      ap (λ t. all_quotes_word_of (single_quote ∷ t)) (append_assoc (all_escaped text) (codes "'") (end ∷ rest))
      ∙ all_escaped_reads (λ w s. word_from (quoted w) s) word_reads text (end ∷ rest) []
      ∙ ends text

  pub powershell_quoted_before : (text : List ℕ) → quoted_by all_quotes_word_of (powershell_quoted text ++ end ∷ rest) ≡ Some (text, end ∷ rest)
  unfolding powershell_quoted
  powershell_quoted_before text = powershell_before text

-- a quoted word ends at a space, and also at `,`
pub powershell_ends_at_space : (rest word : List ℕ) → word_from (after_quote word) (all_signs (space ∷ rest)) ≡ Some (word, space ∷ rest)
unfolding all_signs sign_with sign
powershell_ends_at_space rest word = ap (λ bs. Some (word, space ∷ bs)) (bytes_signs rest)

pub powershell_ends_at_comma : (rest word : List ℕ) → word_from (after_quote word) (all_signs (44 ∷ rest)) ≡ Some (word, 44 ∷ rest)
unfolding all_signs sign_with sign
powershell_ends_at_comma rest word = ap (λ bs. Some (word, 44 ∷ bs)) (bytes_signs rest)
