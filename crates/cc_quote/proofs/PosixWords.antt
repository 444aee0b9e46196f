-- Words as a POSIX shell reads them, and the reading of a quoted text.
use Rattle.std.proofs.Common.{◌≡◌, ◌≢◌, ◌==◌, ℕ, ◌≤◌, Bool, true, false, cond, List, [], ◌∷◌, ◌++◌, Some, None, codes, inr, refl, sym, ◌∙◌, ap, arith, append_assoc, append-nil}
use Rattle.std.specs.List.{list_all}
use Rattle.std.proofs.lemmas.Bool.{and_parts}
use Rattle.std.proofs.lemmas.Bool.Decides.{Decides-eqb, nat_tests}
use Rattle.memchr.specs.Find.{is_byte}
use Rattle.cc_base.specs.Bytes as ascii
use Rattle.cc_quote.specs.Escapes.{escaped_byte as written}
use Rattle.cc_quote.specs.PosixSigns.{Sign, sign, byte_of}
use Rattle.cc_quote.specs.PosixSigns.Sign.{single_quote, other}
use Rattle.cc_quote.specs.PosixQuote.{next_state, word_after, posix_next, posix_added, is_bare, posix_word_from, posix_word_of, is_posix_safe, is_posix_safe_word, posix_escaped, posix_quoted}
use Rattle.cc_quote.specs.declared.posix.QuoteState.{QuoteState}
use Rattle.cc_quote.specs.declared.posix.QuoteState.TheVariants.{Before, Bare, InSingle, InDouble, InDoubleEscaped}
use Rattle.cc_quote.specs.WordReader.{ReadsBytes, ended}

-- ---- one byte

-- the byte of a sign
pub byte_of-sign : (byte : ℕ) → byte_of (sign byte) ≡ byte
unfolding sign byte_of
byte_of-sign byte = grind (arith, nat_tests)

-- the reading continues after a byte
pub goes_on : (state next : QuoteState) (byte : ℕ) (rest word : List ℕ) → next_state state (sign byte) ≡ Some next
    → posix_word_from state word (byte ∷ rest) ≡ posix_word_from next (word_after state (sign byte) word (byte ∷ [])) rest
unfolding posix_word_from
goes_on state next byte rest word e =
    ap (λ after. elim after [
      | Some then ↦ posix_word_from then (word_after state (sign byte) word (byte ∷ [])) rest
      | None ↦ ended (is_bare state) word (byte ∷ rest)
    ]) e

-- ---- one character

-- a byte from 128 on has no special meaning
high_sign : (byte : ℕ) → 128 ≤ byte → sign byte ≡ other byte
unfolding sign
high_sign byte h = grind (arith, nat_tests)

-- the state after such a byte
abbrev pub after_other : QuoteState → QuoteState
after_other InSingle = InSingle
after_other InDouble = InDouble
after_other InDoubleEscaped = InDouble
after_other _ = Bare

next-other : (state : QuoteState) (byte : ℕ) → next_state state (other byte) ≡ Some (after_other state)
next-other Before byte = refl
next-other state byte = refl

pub leads-other : (state : QuoteState) (byte : ℕ) → 128 ≤ byte → posix_next state byte ≡ Some (after_other state)
leads-other state byte h = ap (next_state state) (high_sign byte h) ∙ next-other state byte

after_other-twice : (state : QuoteState) → after_other (after_other state) ≡ after_other state
after_other-twice Before = refl
after_other-twice state = refl

-- two such bytes in a row
more-other : (state : QuoteState) (first byte : ℕ) (word run bytes : List ℕ)
    → word_after (after_other state) (other byte) (word_after state (other first) word run) bytes ≡ word_after state (other first) word (run ++ bytes)
more-other InDoubleEscaped first byte word run bytes = append_assoc (word ++ codes "\\") run bytes
more-other state first byte word run bytes = append_assoc word run bytes

pub grows-other : (state : QuoteState) (first byte : ℕ) (word run bytes : List ℕ) → 128 ≤ first → 128 ≤ byte
    → posix_added (after_other state) byte (posix_added state first word run) bytes ≡ posix_added state first word (run ++ bytes)
grows-other state first byte word run bytes h k =
    ap (λ s. word_after (after_other state) s (posix_added state first word run) bytes) (high_sign byte k)
    ∙ ap (λ s. word_after (after_other state) (other byte) (word_after state s word run) bytes) (high_sign first h)
    ∙ more-other state first byte word run bytes
    ∙ ap (λ s. word_after state s word (run ++ bytes)) (sym (high_sign first h))

-- the word after such a byte does not depend on which byte it is
same-word : (state : QuoteState) (a b : ℕ) (word bytes : List ℕ) → word_after state (other a) word bytes ≡ word_after state (other b) word bytes
same-word Before a b word bytes = refl
same-word state a b word bytes = refl

pub same-other : (state : QuoteState) (a b : ℕ) (word bytes : List ℕ) → 128 ≤ a → 128 ≤ b → posix_added state a word bytes ≡ posix_added state b word bytes
same-other state a b word bytes h k =
    ap (λ s. word_after state s word bytes) (high_sign a h) ∙ same-word state a b word bytes ∙ ap (λ s. word_after state s word bytes) (sym (high_sign b k))

-- so a character is read as its bytes are
pub posix_reads : ReadsBytes posix_next posix_added
posix_reads = record {
  after = after_other;
  leads = λ state. inr (λ byte h. (leads-other state byte h, leads-other (after_other state) byte h ∙ ap Some (after_other-twice state)));
  grows = grows-other;
  same = same-other;
}

-- ---- quoted texts

-- a byte that needs no quotes has no special meaning
pub safe_sign : (byte : ℕ) → is_posix_safe byte ≡ true → sign byte ≡ other byte
unfolding is_posix_safe sign
safe_sign byte h = grind (arith, nat_tests)

-- such bytes in a bare word
pub bare_run : (run rest word : List ℕ) → list_all is_posix_safe run ≡ true → posix_word_from Bare word (run ++ rest) ≡ posix_word_from Bare (word ++ run) rest
bare_run [] rest word h = ap (λ w. posix_word_from Bare w rest) (sym (append-nil word))
bare_run (byte ∷ run) rest word h =
    let parts = and_parts (is_posix_safe byte) (list_all is_posix_safe run) h in
    let is : sign byte ≡ other byte = safe_sign byte parts.0 in
    goes_on Bare Bare byte (run ++ rest) word (ap (next_state Bare) is)
    ∙ ap (λ s. posix_word_from Bare (word_after Bare s word (byte ∷ [])) (run ++ rest)) is
    ∙ bare_run run rest (word ++ byte ∷ []) parts.1
    ∙ ap (λ w. posix_word_from Bare w rest) (append_assoc word (byte ∷ []) run)

-- a word of such bytes
safe_reads : (text : List ℕ) → is_posix_safe_word text ≡ true → posix_word_of text ≡ Some (text, [])
unfolding posix_word_of is_posix_safe_word posix_word_from
safe_reads [] h = cc
safe_reads (byte ∷ text) h =
    let parts = and_parts (is_posix_safe byte) (list_all is_posix_safe text) h in
    let is : sign byte ≡ other byte = safe_sign byte parts.0 in
    goes_on Before Bare byte text [] (ap (next_state Before) is)
    ∙ ap (λ s. posix_word_from Bare (word_after Before s [] (byte ∷ [])) text) is
    ∙ ap (λ t. posix_word_from Bare (byte ∷ []) t) (sym (append-nil text))
    ∙ bare_run text [] (byte ∷ []) parts.1

-- a byte between `'`
abbrev pub posix_escaped_byte : ℕ → List ℕ
posix_escaped_byte = written (is_byte 39) (λ _. codes "'\\''")

escaped_byte : (byte : ℕ) (rest word : List ℕ) → posix_word_from InSingle word (posix_escaped_byte byte ++ rest) ≡ posix_word_from InSingle (word ++ byte ∷ []) rest
unfolding posix_word_from sign byte_of
escaped_byte byte rest word = by_test (byte == ascii.single_quote) refl
  where
    kept : byte == ascii.single_quote ≡ false → sign byte ≢ single_quote
    kept e = grind (arith, nat_tests)

    by_sign : (s : Sign) → s ≢ single_quote
        → elim (next_state InSingle s) [
          | Some then ↦ posix_word_from then (word_after InSingle s word (byte ∷ [])) rest
          | None ↦ None
        ] ≡ posix_word_from InSingle (word ++ byte ∷ []) rest
    by_sign single_quote h = absurd (h refl)
    by_sign s h = refl

    by_test : (q : Bool) → byte == ascii.single_quote ≡ q → posix_word_from InSingle word (cond q (codes "'\\''") (byte ∷ []) ++ rest) ≡ posix_word_from InSingle (word ++ byte ∷ []) rest
    by_test true e = ap (λ b. posix_word_from InSingle (word ++ b ∷ []) rest) (sym ((Decides-eqb byte ascii.single_quote).0 e))
    by_test false e = by_sign (sign byte) (kept e)

-- an escaped text between `'`
pub escaped_text : (text rest word : List ℕ) → posix_word_from InSingle word (posix_escaped text ++ rest) ≡ posix_word_from InSingle (word ++ text) rest
escaped_text [] rest word = ap (λ w. posix_word_from InSingle w rest) (sym (append-nil word))
escaped_text (byte ∷ text) rest word =
    ap (λ t. posix_word_from InSingle word t) (append_assoc (posix_escaped_byte byte) (posix_escaped text) rest)
    ∙ escaped_byte byte (posix_escaped text ++ rest) word
    ∙ escaped_text text rest (word ++ byte ∷ [])
    ∙ ap (λ w. posix_word_from InSingle w rest) (append_assoc word (byte ∷ []) text)

pub quoted_reads : (text : List ℕ) → posix_word_of (codes "'" ++ posix_escaped text ++ codes "'") ≡ Some (text, [])
unfolding posix_word_of posix_word_from sign
quoted_reads text = escaped_text text (ascii.single_quote ∷ []) []

-- a quoted text is read as the text, and nothing remains
pub posix_reads_back : (text quoted : List ℕ) → quoted ≡ posix_quoted text → posix_word_of quoted ≡ Some (text, [])
unfolding posix_quoted
posix_reads_back text quoted e = ap posix_word_of e ∙ by_test (is_posix_safe_word text) refl
  where
    by_test : (safe : Bool) → is_posix_safe_word text ≡ safe → posix_word_of (cond safe text (codes "'" ++ posix_escaped text ++ codes "'")) ≡ Some (text, [])
    by_test true is = safe_reads text is
    by_test false is = quoted_reads text
