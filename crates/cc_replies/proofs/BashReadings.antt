-- The text that bash reads from the lines of its reply.
use Rattle.std.proofs.Common.{◌≡◌, ◌⊎◌, ◌==◌, ◌&&◌, ◌||◌, ℕ, Bool, true, false, cond, not, List, [], ◌∷◌, ◌++◌, Option, Some, None, option_map, codes, inl, inr, refl, sym, ◌∙◌, ap, subst, arith}
use Rattle.std.proofs.lemmas.Bool.{and_parts, ne_eqb}
use Rattle.std.proofs.lemmas.Bool.Decides.{nat_tests}
use Rattle.std.specs.Char.{is_ascii_control}
use Rattle.std.specs.List.{AllByRecursion, list_all}
use Rattle.std.specs.Option.{option_and_then}
use Rattle.cc_base.specs.Bytes.{backslash, line_feed}
use Rattle.cc_base.specs.Found.{after}
use Rattle.cc_base.proofs.Cases.{choose, option_cases}
use Rattle.cc_base.proofs.Members.{AllByRecursion-weaker}
use Rattle.cc_candidates.specs.declared.candidate.CompletionCandidate.{CompletionCandidate}
use Rattle.cc_quote.specs.BashDouble.{is_double_marked}
use Rattle.cc_quote.specs.Escapes.{marked}
use Rattle.cc_replies.specs.BashWords.{BashWordsRead, Cursor, OpenQuote, Bare, Single, Double, bare_read, bare_text, bare_word_read, bash_line_word, bash_text, bash_value_read, bash_word_line, double_read, exclamation, holds, holds_rest, home_start, is_bare_byte, is_bare_escaped, is_bare_marked, is_bash_insertable, is_double_kept, is_single_lost, single_read, start_text, word_read}
use Rattle.cc_replies.specs.Reply.{lines_from}
use Rattle.cc_replies.specs.SafeValues.{is_in_locale, is_safe_text, read_in_locale}
use Rattle.cc_replies.proofs.Beginnings.{follows}
use Rattle.cc_replies.proofs.FirstLines.{IsWithout}
use Rattle.cc_replies.proofs.ReplyReadings.{false_not, marked_without, without}
use Rattle.cc_replies.proofs.SafeReadings.{IsUncontrolled, ReadsLine, feed_first, lines_back, safe_uncontrolled, uncontrolled_without}

-- ---- a text with backslashes

-- a marked byte may follow a backslash; any other byte represents itself
pub record IsHeld (is_kept is_escaped is_marked : ℕ → Bool) (byte : ℕ) : Type 0 where
  pub marked : is_marked byte ≡ true → is_escaped byte ≡ true
  pub no_backslash : is_marked byte ≡ false → (byte == backslash) ≡ false
  pub kept : is_marked byte ≡ false → is_kept byte ≡ true

module _ (is_kept is_escaped is_marked : ℕ → Bool) where
  abbrev read : Bool → List ℕ → Option (List ℕ)
  read escaped text = word_read is_kept is_escaped escaped text

  pub marked_reads : (text : List ℕ) → AllByRecursion (IsHeld is_kept is_escaped is_marked) text → read false (marked is_marked text) ≡ Some text
  unfolding word_read
  marked_reads [] h = refl
  marked_reads (byte ∷ text) h = by_test (is_marked byte) refl ∙ ap (option_map (λ word. byte ∷ word)) (marked_reads text h.1)
    where
      by_test : (m : Bool) → is_marked byte ≡ m
          → read false (cond m (backslash ∷ byte ∷ []) (byte ∷ []) ++ marked is_marked text) ≡ option_map (λ word. byte ∷ word) (read false (marked is_marked text))
      by_test true e = ap (λ b. choose b (option_map (λ word. byte ∷ word) (read false (marked is_marked text))) None) (h.0.marked e)
      by_test false e =
          ap (λ b. choose b (read true (marked is_marked text)) (choose (is_kept byte) (option_map (λ word. byte ∷ word) (read false (marked is_marked text))) None)) (h.0.no_backslash e)
          ∙ ap (λ b. choose b (option_map (λ word. byte ∷ word) (read false (marked is_marked text))) None) (h.0.kept e)

-- ---- each quote

bare_held : (byte : ℕ) → is_ascii_control byte ≡ false → IsHeld is_bare_byte is_bare_escaped is_bare_marked byte
bare_held byte e = record {
  marked = λ m. grind (arith, nat_tests);
  no_backslash = λ m. grind (arith, nat_tests);
  kept = λ m. grind (arith, nat_tests);
}

bare_reads : (text : List ℕ) → IsUncontrolled text → bare_read (marked is_bare_marked text) ≡ Some text
unfolding bare_read
bare_reads text h =
    marked_reads is_bare_byte is_bare_escaped is_bare_marked text
    (AllByRecursion-weaker (λ byte. is_ascii_control byte ≡ false) (IsHeld is_bare_byte is_bare_escaped is_bare_marked) bare_held text h)

double_held : (byte : ℕ) → (byte == exclamation) ≡ false → IsHeld is_double_kept is_double_marked is_double_marked byte
double_held byte e = record {
  marked = λ m. m;
  no_backslash = λ m. grind (arith, nat_tests);
  kept = λ m. ap (λ b. not (b || byte == exclamation)) m ∙ ap not e;
}

double_reads : (text : List ℕ) → IsWithout exclamation text → double_read (marked is_double_marked text) ≡ Some text
unfolding double_read
double_reads text h =
    marked_reads is_double_kept is_double_marked is_double_marked text
    (AllByRecursion-weaker (λ byte. (byte == exclamation) ≡ false) (IsHeld is_double_kept is_double_marked is_double_marked) double_held text h)

single_reads : (text : List ℕ) → list_all (λ byte. not (is_single_lost byte)) text ≡ true → single_read text ≡ Some text
unfolding single_read
single_reads [] h = refl
single_reads (byte ∷ text) h =
    let parts = and_parts (not (is_single_lost byte)) (list_all (λ byte. not (is_single_lost byte)) text) h in
    ap (λ b. choose b None (option_map (λ word. byte ∷ word) (single_read text))) (false_not (is_single_lost byte) parts.0)
    ∙ ap (option_map (λ word. byte ∷ word)) (single_reads text parts.1)

-- ---- a bare word from its start

-- a text without control characters has none after a beginning
clean_after : (front rest text : List ℕ) → text ≡ front ++ rest → IsUncontrolled text → IsUncontrolled rest
clean_after front rest text is h = right front (subst (λ t. IsUncontrolled t) is h)
  where
    right : (front : List ℕ) → IsUncontrolled (front ++ rest) → IsUncontrolled rest
    right [] h = h
    right (byte ∷ front) h = right front h.1

-- an escaped word never begins with `~/`, because its `~` is escaped
no_home : (word : List ℕ) → after home_start (marked is_bare_marked word) ≡ None
unfolding after
no_home [] = refl
no_home (byte ∷ word) = by_test (is_bare_marked byte) refl
  where
    by_test : (m : Bool) → is_bare_marked byte ≡ m → after home_start (cond m (backslash ∷ byte ∷ []) (byte ∷ []) ++ marked is_bare_marked word) ≡ None
    by_test true e = refl
    by_test false e =
        let other : (126 == byte) ≡ false = ne_eqb 126 byte (λ same. let both : true ≡ false = ap is_bare_marked same ∙ e in cc) in
        ap (λ b. choose b (after (codes "/") (marked is_bare_marked word)) None) other

-- such a word is `~/` and the text below it, or has no unescaped `~`
pub start_cases : (word : List ℕ) → ((below : List ℕ) × (word ≡ home_start ++ below) × (start_text word ≡ home_start ++ marked is_bare_marked below)) ⊎ (start_text word ≡ marked is_bare_marked word)
unfolding start_text
start_cases word = elim (option_cases (after home_start word)) [
  | inl found ↦ inl (found.0, follows home_start word found.0 found.1, ap written found.1)
  | inr none ↦ inr (ap written none)
]
  where
    written : Option (List ℕ) → List ℕ
    written found = elim found [
      | Some below ↦ home_start ++ marked is_bare_marked below
      | None ↦ marked is_bare_marked word
    ]

start_reads : (word : List ℕ) → IsUncontrolled word → bare_word_read (start_text word) ≡ Some word
unfolding bare_word_read after
start_reads word h = elim (start_cases word) [
  | inl home ↦
      ap bare_word_read home.2
      ∙ ap (option_map (λ word. home_start ++ word)) (bare_reads home.0 (clean_after home_start home.0 word home.1 h))
      ∙ ap Some (sym home.1)
  | inr bare ↦ ap bare_word_read bare ∙ ap (reading (marked is_bare_marked word)) (no_home word) ∙ bare_reads word h
]
  where
    reading : List ℕ → Option (List ℕ) → Option (List ℕ)
    reading line found = elim found [
      | Some rest ↦ option_map (λ word. home_start ++ word) (bare_read rest)
      | None ↦ bare_read line
    ]

-- ---- the text after the part that bash keeps

text_reads : (kept : List ℕ) (quote : OpenQuote) (rest : List ℕ) → IsUncontrolled rest → holds quote rest ≡ true → bash_line_word kept quote (bash_text kept quote rest) ≡ Some rest
unfolding bash_line_word bash_text bare_text
text_reads kept Single rest h k = single_reads rest k
text_reads kept Double rest h k = double_reads rest (without exclamation rest k)
text_reads [] Bare rest h k = start_reads rest h
text_reads (byte ∷ kept) Bare rest h k = bare_reads rest h

start_without : (word : List ℕ) → IsUncontrolled word → IsWithout line_feed (start_text word)
start_without word h = elim (start_cases word) [
  | inl home ↦
      subst (IsWithout line_feed) (sym home.2)
      (refl, (refl, marked_without line_feed is_bare_marked home.0 refl (uncontrolled_without line_feed refl home.0 (clean_after home_start home.0 word home.1 h))))
  | inr bare ↦ subst (IsWithout line_feed) (sym bare) (marked_without line_feed is_bare_marked word refl (uncontrolled_without line_feed refl word h))
]

text_without : (kept : List ℕ) (quote : OpenQuote) (rest : List ℕ) → IsUncontrolled rest → IsWithout line_feed (bash_text kept quote rest)
unfolding bash_text bare_text
text_without kept Single rest h = uncontrolled_without line_feed refl rest h
text_without kept Double rest h = marked_without line_feed is_double_marked rest refl (uncontrolled_without line_feed refl rest h)
text_without [] Bare rest h = start_without rest h
text_without (byte ∷ kept) Bare rest h = marked_without line_feed is_bare_marked rest refl (uncontrolled_without line_feed refl rest h)

-- ---- the law

-- the text of a value that bash can insert
pub record IsWritten (cursor : Cursor) (value : List ℕ) : Type 0 where
  pub rest : List ℕ
  pub found : after cursor.kept value ≡ Some rest
  pub held : holds cursor.quote rest ≡ true
  pub one_line : IsWithout line_feed (bash_text cursor.kept cursor.quote rest)
  pub reads : bash_value_read cursor (bash_text cursor.kept cursor.quote rest) ≡ Some value

pub is_written : (cursor : Cursor) (value : List ℕ) → is_bash_insertable cursor value ≡ true → IsWritten cursor value
unfolding bash_value_read
is_written cursor value e =
    let kept : List ℕ = cursor.kept in
    let quote : OpenQuote = cursor.quote in
    let both = and_parts (is_safe_text value && is_in_locale cursor.ascii_only value) (holds_rest quote (after kept value)) e in
    let safe = and_parts (is_safe_text value) (is_in_locale cursor.ascii_only value) both.0 in
    elim (option_cases (after kept value)) [
      | inl found ↦
          let rest : List ℕ = found.0 in
          let whole : value ≡ kept ++ rest = follows kept value rest found.1 in
          let clean : IsUncontrolled rest = clean_after kept rest value whole (safe_uncontrolled value safe.0) in
          let held : holds quote rest ≡ true = sym (ap (holds_rest quote) found.1) ∙ both.1 in
          record {
            rest = rest;
            found = found.1;
            held = held;
            one_line = text_without kept quote rest clean;
            reads =
                ap (λ read. option_and_then (read_in_locale cursor.ascii_only) (option_map (λ rest. kept ++ rest) read)) (text_reads kept quote rest clean held)
                ∙ ap (read_in_locale cursor.ascii_only) (sym whole)
                ∙ ap (λ b. cond b (Some value) None) safe.1;
          }
      | inr none ↦ let both : false ≡ true = sym (ap (holds_rest quote) none) ∙ both.1 in cc
    ]

word_reads : (cursor : Cursor) (value : List ℕ) → is_bash_insertable cursor value ≡ true
    → ReadsLine (IsWithout line_feed) (bash_value_read cursor) (bash_word_line cursor value) (Some value)
unfolding bash_word_line
word_reads cursor value e =
    let written = is_written cursor value e in
    record {
      body = bash_text cursor.kept cursor.quote written.rest;
      whole = ap (λ found. elim found [ Some rest ↦ bash_text cursor.kept cursor.quote rest ++ codes "\n" | None ↦ [] ]) written.found;
      one_line = written.one_line;
      reads = written.reads;
    }

pub words_read_back : (cursor : Cursor) (candidates : List CompletionCandidate) → BashWordsRead cursor candidates
unfolding BashWordsRead lines_from
words_read_back cursor candidates =
    lines_back (IsWithout line_feed) (lines_from []) refl feed_first (bash_value_read cursor) (λ candidate. Some candidate.value)
    (λ candidate. is_bash_insertable cursor candidate.value)
    (λ candidate. bash_word_line cursor candidate.value) (λ candidate e. word_reads cursor candidate.value e) candidates
