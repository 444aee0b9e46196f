-- The search for the bytes with which an escaped character of PowerShell begins.
use Rattle.std.proofs.Common.{◌≡◌, ◌==◌, ◌||◌, ◌&&◌, ℕ, zero, suc, ◌+◌, ◌<◌, ◌≤◌, Bool, true, false, cond, List, [], ◌∷◌, ◌++◌, length, get_or, take, drop, refl, sym, ◌∙◌, ap, subst, arith, add-one, append_assoc, drop-cons}
use Rattle.std.proofs.Math.Seq.{take-suc}
use Rattle.std.proofs.lemmas.Bool.{or_parts}
use Rattle.std.proofs.lemmas.Bool.Decides.{nat_tests}
use Rattle.std.proofs.lemmas.List.{append-nil, drop_all, take_all}
use Rattle.memchr.specs.Find.{is_byte3, places_from, places}
use Rattle.cc_base.specs.Bytes.{line_feed, single_quote, right_quote_first}
use Rattle.cc_quote.specs.PowershellQuote.{begins_second, begins_right_quote, begins_quote, powershell_escaped_byte, powershell_escaped, is_escaped}

-- the bytes that the search looks for
abbrev pub may_begin : ℕ → Bool
may_begin = is_byte3 single_quote line_feed right_quote_first

-- the bytes before an index are kept
abbrev pub IsKeptTo : List ℕ → ℕ → Type 0
IsKeptTo text at = powershell_escaped text ≡ take at text ++ powershell_escaped (drop at text)

-- any other byte has no replacement
not_escaped : (byte : ℕ) (rest : List ℕ) → may_begin byte ≡ false → is_escaped byte rest ≡ false
not_escaped byte rest other =
    let feed : byte == line_feed ≡ false = grind (arith, nat_tests) in
    let quote : byte == single_quote ≡ false = grind (arith, nat_tests) in
    let right : byte == right_quote_first ≡ false = grind (arith, nat_tests) in
    ap (λ b. b || begins_quote byte rest) feed ∙ ap (λ b. b || begins_right_quote byte rest) quote ∙ ap (λ b. b && begins_second rest) right

-- a byte that is not escaped is kept
kept_byte : (byte : ℕ) (rest : List ℕ) → is_escaped byte rest ≡ false → powershell_escaped_byte byte rest ≡ byte ∷ []
kept_byte byte rest same =
    let feed = or_parts (byte == line_feed) (begins_quote byte rest) same in
    let quote = or_parts (byte == single_quote) (begins_right_quote byte rest) feed.1 in
    rw (quote.0, feed.0, quote.1)

-- so the search may pass over it
pub kept_past : (text : List ℕ) (at : ℕ) → at < length text → IsKeptTo text at → is_escaped (get_or text at 0) (drop (at + 1) text) ≡ false → IsKeptTo text (at + 1)
kept_past text at within kept same =
    kept
    ∙ ap (λ bs. take at text ++ powershell_escaped bs) cut
    ∙ ap (λ run. take at text ++ (run ++ powershell_escaped rest)) (kept_byte byte rest same)
    ∙ sym (append_assoc (take at text) (byte ∷ []) (powershell_escaped rest))
    ∙ ap (λ run. run ++ powershell_escaped rest) (sym longer)
  where
    byte : ℕ
    byte = get_or text at 0

    rest : List ℕ
    rest = drop (at + 1) text

    cut : drop at text ≡ byte ∷ rest
    cut = rw add-one (drop-cons text at 0 within)

    longer : take (at + 1) text ≡ take at text ++ byte ∷ []
    longer = rw add-one (take-suc text at 0 within)

-- the indexes that the search has not returned yet; up to its place the text is kept
pub record AreLeft (text left : List ℕ) : Type 0 where
  pub from : ℕ
  pub count : ℕ
  pub ends : from + count ≡ length text
  pub kept : IsKeptTo text from
  pub left_are : left ≡ places_from may_begin text from count

-- the next index that the search returns, and the indexes after it
pub record IsNext (text : List ℕ) (at : ℕ) (left : List ℕ) : Type 0 where
  pub within : at < length text
  pub kept : IsKeptTo text at
  pub count : ℕ
  pub ends : at + 1 + count ≡ length text
  pub left_are : left ≡ places_from may_begin text (at + 1) count

-- at the start, all indexes remain
pub all_left : (text left : List ℕ) → left ≡ places may_begin text → AreLeft text left
all_left text left e = record {
  from = 0;
  count = length text;
  ends = omega arith;
  kept = refl;
  left_are = e ∙ ap (λ n. places_from may_begin text 0 n) (omega arith);
}

found : (text : List ℕ) (from count : ℕ) → from + count ≡ length text → IsKeptTo text from → (at : ℕ) (left : List ℕ) → at ∷ left ≡ places_from may_begin text from count → IsNext text at left
unfolding places_from
found text from zero ends kept at left e = cc
found text from (suc count) ends kept at left e = by (may_begin (get_or text from 0)) refl (λ k h. found text (from + 1) count (omega arith) k at left h) e
  where
    later : List ℕ
    later = places_from may_begin text (from + 1) count

    by : (b : Bool) → may_begin (get_or text from 0) ≡ b → (IsKeptTo text (from + 1) → at ∷ left ≡ later → IsNext text at left)
        → at ∷ left ≡ cond b (from ∷ later) later → IsNext text at left
    by true is below e =
        let here : at ≡ from = cc in
        let is_left : left ≡ later = cc in
        subst (λ a. IsNext text a left) (sym here) (record { within = omega arith; kept = kept; count = count; ends = omega arith; left_are = is_left })
    by false is below e = below (kept_past text from (omega arith) kept (not_escaped (get_or text from 0) (drop (from + 1) text) is)) e

none : (text : List ℕ) (from count : ℕ) → from + count ≡ length text → IsKeptTo text from → ◌≡◌ {A = List ℕ} [] (places_from may_begin text from count) → powershell_escaped text ≡ text
unfolding places_from
none text from zero ends kept e =
    let past : length text ≤ from = omega arith in
    kept ∙ ap (λ bs. take from text ++ powershell_escaped bs) (drop_all from text past) ∙ append-nil (take from text) ∙ take_all from text past
none text from (suc count) ends kept e = by (may_begin (get_or text from 0)) refl (λ k h. none text (from + 1) count (omega arith) k h) e
  where
    later : List ℕ
    later = places_from may_begin text (from + 1) count

    by : (b : Bool) → may_begin (get_or text from 0) ≡ b → (IsKeptTo text (from + 1) → ◌≡◌ {A = List ℕ} [] later → powershell_escaped text ≡ text)
        → ◌≡◌ {A = List ℕ} [] (cond b (from ∷ later) later) → powershell_escaped text ≡ text
    by true is below e = cc
    by false is below e = below (kept_past text from (omega arith) kept (not_escaped (get_or text from 0) (drop (from + 1) text) is)) e

-- the search returns an index
pub next_state : (text left after : List ℕ) (at : ℕ) → AreLeft text left → left ≡ at ∷ after → IsNext text at after
next_state text left after at h e = found text h.from h.count h.ends h.kept at after (sym e ∙ h.left_are)

-- the search returns no index
pub no_state : (text left : List ℕ) → AreLeft text left → left ≡ [] → powershell_escaped text ≡ text
no_state text left h e = none text h.from h.count h.ends h.kept (sym e ∙ h.left_are)

-- the search continues after a byte that is not escaped
pub goes_on : (text after : List ℕ) (at : ℕ) → IsNext text at after → is_escaped (get_or text at 0) (drop (at + 1) text) ≡ false → AreLeft text after
goes_on text after at next same = record {
  from = at + 1;
  count = next.count;
  ends = next.ends;
  kept = kept_past text at next.within next.kept same;
  left_are = next.left_are;
}
