-- The first whitespace of a text.
use Rattle.std.proofs.Common.{◌≡◌, ℕ, suc, ◌<◌, ◌≤◌, Bool, true, false, List, [], ◌∷◌, ◌++◌, length, get_or, take, drop, Option, Some, None, MatchOption, unwrap_or, sym, ◌∙◌, ap, subst, inl, inr, ⊎_elim, arith}
use Rattle.std.specs.Char.{char_set_contains}
use Rattle.std.specs.Str.{NoCharPasses, NonePass}
use Rattle.std.specs.Str.Pattern.{FindsBy, MatchBeginsAt}
use Rattle.std.proofs.lemmas.List.{take_all, drop_all, take-append-drop}
use Rattle.std.proofs.lemmas.Bool.{cases_lt}
use Rattle.std.proofs.lemmas.Str.{encode_ascii, NoCharPasses-byte}
use Rattle.std.proofs.lemmas.Bool.Decides.{nat_tests}
use Rattle.cc_quote.specs.QuotedWord.{IsCutAtBlank}
use Rattle.cc_base.specs.Bytes.{is_blank, line_feed, space, tab}

pub blanks_are : (x : ℕ) → char_set_contains (space ∷ tab ∷ line_feed ∷ []) x ≡ is_blank x
blanks_are x = grind (arith, nat_tests)

-- each whitespace character is one byte
pub is_blank-low : (x : ℕ) → is_blank x ≡ true → x < 128
is_blank-low x h = grind (arith, nat_tests)

module _ (F : List ℕ → Option (ℕ × ℕ) → Type 0) (text : List ℕ) (tells : (r : Option (ℕ × ℕ)) → F text r → FindsBy is_blank text r) where
  -- the text is cut where the search for whitespace stopped
  pub cut_at_found : (found : Option ℕ) → MatchOption found (F text None) (MatchBeginsAt F text) → IsCutAtBlank text (take (unwrap_or found (length text)) text) (drop (unwrap_or found (length text)) text)
  cut_at_found None h = record {
    whole = sym (take-append-drop (length text) text);
    no_blank = subst (λ (front : List ℕ). NoCharPasses is_blank front) (sym (take_all (length text) text (omega arith))) (tells None h);
    ends = inl (drop_all (length text) text (omega arith));
  }
  cut_at_found (Some i) (j, finds, _, _, _) =
      let told = tells (Some (i, j)) finds in
      let b = told.1.0 in
      record {
        whole = sym (take-append-drop i text);
        no_blank = told.0;
        ends =
            inr
            (b, drop j text, told.1.1, told.1.2.split ∙ ap (λ (bs : List ℕ). bs ++ drop j text) (encode_ascii b (is_blank-low b told.1.1)));
      }

-- no item of a list passes a test, if none passes it by its index
NonePass-from_reads : (p : ℕ → Bool) (xs : List ℕ) → ((k : ℕ) → k < length xs → p (get_or xs k 0) ≡ false) → NonePass p xs
NonePass-from_reads p [] h = tt
NonePass-from_reads p (x ∷ xs) h = (h 0 (omega arith), NonePass-from_reads p xs (λ k l. h (suc k) (omega arith)))

-- if no character of a text is whitespace, no byte of it is
pub bytes_no_blank : (front : List ℕ) → NoCharPasses is_blank front → NonePass is_blank front
bytes_no_blank front h =
    NonePass-from_reads is_blank front
    (λ k l.
    ⊎_elim {C = is_blank (get_or front k 0) ≡ false} (λ low. NoCharPasses-byte is_blank front k h l low)
    (λ high. is_blank-high (get_or front k 0) high)
    (cases_lt (get_or front k 0) 128))
  where
    is_blank-high : (byte : ℕ) → 128 ≤ byte → is_blank byte ≡ false
    is_blank-high byte high = grind (arith, nat_tests)
