-- The whole lines of a text, where its last byte is left out.
use Rattle.std.proofs.Common.{arith, ◌≡◌, ◌≢◌, ◌∙◌, ◌==◌, ◌||◌, ◌-◌, ◌+◌, ◌<◌, ◌≤◌, ap, refl, sym, ℕ, true, false, cond, get_or, length, take, List, [], ◌∷◌, ◌++◌}
use Rattle.std.proofs.Math.Bool.{or-false, or-true}
use Rattle.std.proofs.lemmas.Bool.{lt-leb, ne_eqb}
use Rattle.std.proofs.lemmas.List.{take_more}
use Rattle.std.proofs.lemmas.List.Folds.{list_any-append}
use Rattle.cc_base.specs.Bytes.{line_feed}
use Rattle.cc_lines.specs.ValueFiles.{first_lines, has_line_end, whole_lines}

ends_there : (text : List ℕ) → has_line_end (text ++ line_feed ∷ []) ≡ true
ends_there text =
    list_any-append (λ byte. byte == line_feed) text (line_feed ∷ []) ∙ or-true (has_line_end text)

ends_before : (text : List ℕ) (byte : ℕ) → (byte == line_feed) ≡ false
    → has_line_end (text ++ byte ∷ []) ≡ has_line_end text
ends_before text byte other =
    list_any-append (λ byte. byte == line_feed) text (byte ∷ [])
    ∙ ap (λ b. has_line_end text || (b || false)) other ∙ or-false (has_line_end text)

-- a text that ends in a line feed is whole lines
pub whole_lines-ended : (text : List ℕ) → whole_lines (text ++ line_feed ∷ [])
    ≡ text ++ line_feed ∷ []
whole_lines-ended [] = refl
whole_lines-ended (byte ∷ text) =
    ap (λ b. cond b (byte ∷ whole_lines (text ++ line_feed ∷ [])) []) (ends_there (byte ∷ text))
    ∙ ap (λ rest. byte ∷ rest) (whole_lines-ended text)

-- another byte at the end is in no whole line
pub whole_lines-open : (text : List ℕ) (byte : ℕ) → (byte == line_feed) ≡ false
    → whole_lines (text ++ byte ∷ []) ≡ whole_lines text
whole_lines-open [] byte other = rw other refl
whole_lines-open (first ∷ text) byte other =
    ap (λ b. cond b (first ∷ whole_lines (text ++ byte ∷ [])) [])
    (ends_before (first ∷ text) byte other)
    ∙ ap (λ rest. cond (has_line_end (first ∷ text)) (first ∷ rest) [])
    (whole_lines-open text byte other)

-- ---- the first bytes of a text

-- the first bytes, before the last of them and with it
last_taken : (text : List ℕ) (n : ℕ) → 0 < n → n ≤ length text
    → take n text ≡ take (n - 1) text ++ get_or text (n - 1) 0 ∷ []
last_taken text n some within =
    ap (λ k. take k text) {x = n} {y = n - 1 + 1} (omega (arith, some))
    ∙ take_more text (n - 1) 0 (omega (arith, some, within))

-- another byte than a line feed is in no whole line
pub lines_before : (text : List ℕ) (n : ℕ) → 0 < n → n ≤ length text
    → get_or text (n - 1) 0 ≢ line_feed
    → whole_lines (take n text) ≡ whole_lines (take (n - 1) text)
lines_before text n some within other =
    ap whole_lines (last_taken text n some within)
    ∙ whole_lines-open (take (n - 1) text) (get_or text (n - 1) 0) (ne_eqb _ _ other)

-- a line feed ends the whole lines
pub lines_at_end : (text : List ℕ) (n : ℕ) → 0 < n → n ≤ length text
    → get_or text (n - 1) 0 ≡ line_feed
    → take n text ≡ whole_lines (take n text)
lines_at_end text n some within ends =
    let taken : take n text ≡ take (n - 1) text ++ line_feed ∷ [] =
    last_taken text n some within ∙ ap (λ byte. take (n - 1) text ++ byte ∷ []) ends in
    taken ∙ sym (ap whole_lines taken ∙ whole_lines-ended (take (n - 1) text))

-- of a text that is longer than the limit
pub lines_of_longer : (limit : ℕ) (text : List ℕ) → limit < length text
    → first_lines limit text ≡ whole_lines (take limit text)
lines_of_longer limit text over =
    ap (λ b. cond b text (whole_lines (take limit text))) (lt-leb (length text) limit over)
