-- The reading of texts that zsh's escapes wrote.
use Rattle.std.proofs.Common.{◌≡◌, ◌==◌, ℕ, ◌≤◌, Bool, true, false, not, cond, List, [], ◌∷◌, ◌++◌, map, Option, Some, None, option_map, codes, inr, refl, sym, ◌∙◌, ap, arith, append_assoc, append-nil}
use Rattle.std.proofs.lemmas.Bool.Decides.{Decides-eqb, nat_tests}
use Rattle.std.proofs.lemmas.List.Folds.{flat_map-map}
use Rattle.cc_base.specs.Bytes.{backslash}
use Rattle.cc_quote.specs.Escapes.{escaped_byte, marked_byte, marked}
use Rattle.cc_quote.specs.PosixQuote.{posix_escaped, posix_word_of}
use Rattle.cc_quote.specs.QuotedWord.{space_for_line_feed, line_feeds_as_spaces}
use Rattle.cc_quote.specs.WordReader.{ReadsBytes, word_from}
use Rattle.cc_quote.specs.ZshQuote.{escape_next, unescaped_added, is_plain, Mark, marks_from, marks, unmarked, zsh_unescaped, is_help_marked, is_value_marked, zsh_escaped_help, zsh_escaped_value, zsh_help_replacement, zsh_replacement, ReadsUnescaped, is_help_escaped, is_value_escaped}
use Rattle.cc_quote.specs.ZshQuote.Mark.{kept, escaped}
use Rattle.cc_quote.specs.declared.zsh.EscapeState.{EscapeState}
use Rattle.cc_quote.specs.declared.zsh.EscapeState.TheVariants.{Plain, Escaping}
use Rattle.cc_quote.proofs.ByteEscapes.{composed, same_bytes}
use Rattle.cc_quote.proofs.PosixWords.{posix_escaped_byte, quoted_reads}

-- ---- quotes and backslashes at once

help_byte : (byte : ℕ) → escaped_byte is_help_escaped zsh_help_replacement byte ≡ posix_escaped (marked_byte is_help_marked (space_for_line_feed byte))
help_byte byte = grind (arith, nat_tests)

pub help_composed : (text : List ℕ) → zsh_escaped_help text ≡ posix_escaped (marked is_help_marked (line_feeds_as_spaces text))
unfolding zsh_escaped_help
help_composed text =
    same_bytes (escaped_byte is_help_escaped zsh_help_replacement) (λ byte. posix_escaped (marked_byte is_help_marked (space_for_line_feed byte))) help_byte text
    ∙ composed (λ byte. marked_byte is_help_marked (space_for_line_feed byte)) posix_escaped_byte text
    ∙ ap posix_escaped (sym (flat_map-map (marked_byte is_help_marked) space_for_line_feed text))

value_byte : (byte : ℕ) → escaped_byte is_value_escaped zsh_replacement byte ≡ posix_escaped (marked_byte is_value_marked byte)
value_byte byte = grind (arith, nat_tests)

pub value_composed : (text : List ℕ) → zsh_escaped_value text ≡ posix_escaped (marked is_value_marked text)
unfolding zsh_escaped_value
value_composed text =
    same_bytes (escaped_byte is_value_escaped zsh_replacement) (λ byte. posix_escaped (marked_byte is_value_marked byte)) value_byte text
    ∙ composed (marked_byte is_value_marked) posix_escaped_byte text

-- ---- backslashes

-- a byte other than a backslash means itself
pub marks-kept : (byte : ℕ) (rest : List ℕ) → byte == backslash ≡ false → marks_from false (byte ∷ rest) ≡ kept byte ∷ marks_from false rest
unfolding marks_from
marks-kept byte rest e = rw (marks_from, e) refl

-- the mark of a byte of an escaped text
abbrev pub mark_of : (ℕ → Bool) → ℕ → Mark
mark_of is_marked byte = cond (is_marked byte) (escaped byte) (kept byte)

module _ (is_marked : ℕ → Bool) (backslash_marked : is_marked 92 ≡ true) where
  -- a byte with its backslash if it needs one, whatever follows
  marks-byte : (byte : ℕ) (rest : List ℕ) → marks_from false (marked_byte is_marked byte ++ rest) ≡ mark_of is_marked byte ∷ marks_from false rest
  unfolding marks_from
  marks-byte byte rest = by_tests (is_marked byte) (byte == backslash) refl refl
    where
      by_tests : (m b : Bool) → is_marked byte ≡ m → byte == backslash ≡ b → marks_from false (cond m (backslash ∷ byte ∷ []) (byte ∷ []) ++ rest) ≡ cond m (escaped byte) (kept byte) ∷ marks_from false rest
      by_tests true b e f = refl
      by_tests false true e f = let is : byte ≡ 92 = (Decides-eqb byte backslash).0 f in let both : true ≡ false = sym backslash_marked ∙ ap is_marked (sym is) ∙ e in cc
      by_tests false false e f = marks-kept byte rest f

  -- an escaped text, whatever follows
  pub marks-marked : (text rest : List ℕ) → marks_from false (marked is_marked text ++ rest) ≡ map (mark_of is_marked) text ++ marks_from false rest
  marks-marked [] rest = refl
  marks-marked (byte ∷ text) rest =
      ap (marks_from false) (append_assoc (marked_byte is_marked byte) (marked is_marked text) rest)
      ∙ marks-byte byte (marked is_marked text ++ rest)
      ∙ ap (λ ms. mark_of is_marked byte ∷ ms) (marks-marked text rest)

  -- an escaped text is read as the text
  unmarked-text : (text : List ℕ) → unmarked (map (mark_of is_marked) text) ≡ Some text
  unfolding unmarked
  unmarked-text [] = refl
  unmarked-text (byte ∷ text) = by_test (is_marked byte) ∙ ap (option_map (λ bytes. byte ∷ bytes)) (unmarked-text text)
    where
      by_test : (m : Bool) → unmarked (cond m (escaped byte) (kept byte) ∷ map (mark_of is_marked) text) ≡ option_map (λ bytes. byte ∷ bytes) (unmarked (map (mark_of is_marked) text))
      by_test true = refl
      by_test false = refl

  pub marked_unescaped : (text : List ℕ) → zsh_unescaped (marked is_marked text) ≡ Some text
  unfolding zsh_unescaped marks marks_from
  marked_unescaped text =
      ap (λ t. unmarked (marks_from false t)) (sym (append-nil (marked is_marked text)))
      ∙ ap unmarked (marks-marked text [])
      ∙ ap unmarked (append-nil (map (mark_of is_marked) text))
      ∙ unmarked-text text

-- an escaped description is read as the description, with line feeds as spaces
pub help_reads_unescaped : (text : List ℕ) → ReadsUnescaped (zsh_escaped_help text) (line_feeds_as_spaces text)
help_reads_unescaped text = record {
  between = marked is_help_marked (line_feeds_as_spaces text);
  word = ap (λ quoted. posix_word_of (codes "'" ++ quoted ++ codes "'")) (help_composed text) ∙ quoted_reads (marked is_help_marked (line_feeds_as_spaces text));
  unescaped = marked_unescaped is_help_marked refl (line_feeds_as_spaces text);
}

-- an escaped value is read as the value
pub value_reads_unescaped : (text : List ℕ) → ReadsUnescaped (zsh_escaped_value text) text
value_reads_unescaped text = record {
  between = marked is_value_marked text;
  word = ap (λ quoted. posix_word_of (codes "'" ++ quoted ++ codes "'")) (value_composed text) ∙ quoted_reads (marked is_value_marked text);
  unescaped = marked_unescaped is_value_marked refl text;
}

-- ---- the reader, state by state

-- a byte from 128 on is not a backslash
no_backslash : (byte : ℕ) → 128 ≤ byte → byte == backslash ≡ false
no_backslash byte h = grind (arith, nat_tests)

leads : (state : EscapeState) (byte : ℕ) → 128 ≤ byte → escape_next state byte ≡ Some Plain
leads Plain byte h = ap (λ is. Some (cond is Escaping Plain)) (no_backslash byte h)
leads Escaping byte h = refl

high_added : (state : EscapeState) (byte : ℕ) (word bytes : List ℕ) → 128 ≤ byte → unescaped_added state byte word bytes ≡ word ++ bytes
high_added Plain byte word bytes h = ap (λ is. cond is word (word ++ bytes)) (no_backslash byte h)
high_added Escaping byte word bytes h = refl

pub unescaping_reads : ReadsBytes escape_next unescaped_added
unescaping_reads = record {
  after = λ _. Plain;
  leads = λ state. inr (λ byte h. (leads state byte h, leads Plain byte h));
  grows = λ state first byte word run bytes h k.
      high_added Plain byte (unescaped_added state first word run) bytes k
      ∙ ap (λ w. w ++ bytes) (high_added state first word run h)
      ∙ append_assoc word run bytes
      ∙ sym (high_added state first word (run ++ bytes) h);
  same = λ state a b word bytes h k. high_added state a word bytes h ∙ sym (high_added state b word bytes k);
}

-- one more byte of the word
added : (word : List ℕ) (byte : ℕ) (read : Option (List ℕ)) → option_map (λ bytes. (word ++ byte ∷ []) ++ bytes) read ≡ option_map (λ bytes. word ++ bytes) (option_map (λ bytes. byte ∷ bytes) read)
added word byte None = refl
added word byte (Some bytes) = ap Some (append_assoc word (byte ∷ []) bytes)

-- from the given state and word on, the text is read as a word with these bytes
abbrev Reads : List ℕ → EscapeState → List ℕ → List ℕ → Option (List ℕ) → Type 0
Reads word state grown text read =
    option_map (λ read. read.0) (word_from escape_next unescaped_added is_plain state grown text) ≡ option_map (λ bytes. word ++ bytes) read

-- the marks that remain after a word
read_by_marks : (state : EscapeState) (word text : List ℕ) → Reads word state word text (unmarked (marks_from (not (is_plain state)) text))
unfolding marks_from unmarked
read_by_marks Plain word [] = ap Some (sym (append-nil word))
read_by_marks Escaping word [] = refl
read_by_marks Escaping word (byte ∷ text) = read_by_marks Plain (word ++ byte ∷ []) text ∙ added word byte (unmarked (marks_from false text))
read_by_marks Plain word (byte ∷ text) =
    by_test (byte == backslash) refl (read_by_marks Escaping word text) (read_by_marks Plain (word ++ byte ∷ []) text ∙ added word byte (unmarked (marks_from false text)))
  where
    by_test : (is : Bool) → byte == backslash ≡ is → Reads word Escaping word text (unmarked (marks_from true text)) → Reads word Plain (word ++ byte ∷ []) text (unmarked (kept byte ∷ marks_from false text))
        → Reads word Plain word (byte ∷ text) (unmarked (marks_from false (byte ∷ text)))
    by_test true e escaping plain = rw (marks_from, e) escaping
    by_test false e escaping plain = rw (marks_from, e) plain

-- the reader returns the text without the backslashes that escape
pub states_unescape : (text : List ℕ) → option_map (λ read. read.0) (word_from escape_next unescaped_added is_plain Plain [] text) ≡ zsh_unescaped text
unfolding zsh_unescaped marks
states_unescape text = read_by_marks Plain [] text ∙ from_none (unmarked (marks_from false text))
  where
    from_none : (read : Option (List ℕ)) → option_map (λ bytes. [] ++ bytes) read ≡ read
    from_none None = refl
    from_none (Some bytes) = refl
