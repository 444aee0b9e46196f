-- The text that PowerShell reads from the lines of its reply.
use Rattle.std.proofs.Common.{◌≡◌, ◌==◌, ◌&&◌, ℕ, Bool, true, false, cond, not, List, [], ◌∷◌, ◌++◌, Option, Some, None, option_map, codes, refl, sym, ◌∙◌, ap, append_assoc, append-nil, arith}
use Rattle.std.proofs.lemmas.Bool.{and_parts, ne_eqb}
use Rattle.std.specs.List.{list_all}
use Rattle.std.specs.Option.{option_and_then}
use Rattle.std.specs.Prelude.{length}
use Rattle.cc_base.specs.Bytes.{line_feed, single_quote, space, tab}
use Rattle.cc_base.specs.Found.{after, cut_at, ended, with_front}
use Rattle.cc_base.proofs.Cases.{choose}
use Rattle.cc_base.proofs.Finding.{past_lacking}
use Rattle.cc_base.proofs.Members.{AllByRecursion-append}
use Rattle.cc_candidates.specs.declared.candidate.CompletionCandidate.{CompletionCandidate}
use Rattle.cc_quote.specs.PowershellQuote.{begins_right_quote, powershell_escaped, powershell_escaped_byte, powershell_word_of}
use Rattle.cc_quote.specs.QuotedWord.{line_feeds_as_spaces}
use Rattle.cc_quote.proofs.PowershellWords.{powershell_reads_back}
use Rattle.cc_replies.specs.PowershellEntries.{entry_of, entry_shown, has_byte, output_lines, tooltip_of}
use Rattle.cc_replies.specs.PowershellWords.{PowershellWordsRead, begins_other_quote, is_powershell_bare, is_powershell_byte, is_powershell_insertable, is_received, is_split_parameter, powershell_line, powershell_line_read, powershell_typed, powershell_word, quoted_whole, received, typed_as, typed_entry, word_entry}
use Rattle.cc_replies.specs.Reply.{Shown, carriage_return, line_shown, shown_line}
use Rattle.cc_replies.specs.SafeValues.{begins_control, is_found, is_safe_text, safe_help, safe_shown}
use Rattle.cc_replies.proofs.EntryReadings.{IsOutputLine, entry_made, output_first}
use Rattle.cc_replies.proofs.FirstLines.{IsWithout}
use Rattle.cc_replies.proofs.ReplyReadings.{body_read, false_not, lacks, line_body}
use Rattle.cc_replies.proofs.SafeReadings.{ReadsLine, lines_back, safe_line_without, safe_without}

-- ---- the word contains neither a tab nor a line feed

escaped_without : (special : ℕ) → (single_quote == special) ≡ false → (space == special) ≡ false → (text : List ℕ) → IsWithout special text → IsWithout special (powershell_escaped text)
escaped_without special e f [] h = tt
escaped_without special e f (byte ∷ text) h =
    AllByRecursion-append (λ b. (b == special) ≡ false) (powershell_escaped_byte byte text) (powershell_escaped text)
    (by_tests (byte == single_quote) (byte == line_feed) (begins_right_quote byte text)) (escaped_without special e f text h.1)
  where
    by_tests : (quote feed right : Bool) → IsWithout special (cond quote (single_quote ∷ single_quote ∷ []) (cond feed (space ∷ []) (cond right (single_quote ∷ byte ∷ []) (byte ∷ []))))
    by_tests true feed right = (e, (e, tt))
    by_tests false true right = (f, tt)
    by_tests false false true = (e, (h.0, tt))
    by_tests false false false = (h.0, tt)

word_without : (special : ℕ) → (single_quote == special) ≡ false → (space == special) ≡ false → (value : List ℕ) → IsWithout special value → IsWithout special (powershell_word value)
unfolding powershell_word
word_without special e f value h = by_test (is_powershell_bare value)
  where
    by_test : (b : Bool) → IsWithout special (choose b value (codes "'" ++ powershell_escaped value ++ codes "'"))
    by_test true = h
    by_test false =
        AllByRecursion-append (λ b. (b == special) ≡ false) (codes "'" ++ powershell_escaped value) (codes "'")
        (e, escaped_without special e f value h) (e, tt)

-- ---- the word is read as the value

no_spaces : (text : List ℕ) → IsWithout line_feed text → line_feeds_as_spaces text ≡ text
no_spaces [] h = refl
no_spaces (byte ∷ text) h = ap (λ b. cond b space byte ∷ line_feeds_as_spaces text) h.0 ∙ ap (λ rest. byte ∷ rest) (no_spaces text h.1)

bare_typed : (value : List ℕ) → is_powershell_bare value ≡ true → powershell_typed value ≡ Some value
unfolding powershell_typed
bare_typed [] e = cc
bare_typed (byte ∷ word) e =
    let bytes : list_all is_powershell_byte (byte ∷ word) ≡ true = (and_parts (list_all is_powershell_byte (byte ∷ word)) (not (is_split_parameter (byte ∷ word))) e).0 in
    let first : is_powershell_byte byte ≡ true = (and_parts (is_powershell_byte byte) (list_all is_powershell_byte word) bytes).0 in
    let no_quote : (byte == single_quote) ≡ false = ne_eqb byte single_quote (λ same. let both : true ≡ false = sym first ∙ ap is_powershell_byte same in cc) in
    ap (λ b. choose b (quoted_whole (powershell_word_of (byte ∷ word))) (choose (is_powershell_bare (byte ∷ word)) (Some (byte ∷ word)) None)) no_quote
    ∙ ap (λ b. choose b (Some (byte ∷ word)) None) e

quoted_typed : (value : List ℕ) → IsWithout line_feed value → is_found begins_other_quote value ≡ false → powershell_typed (codes "'" ++ powershell_escaped value ++ codes "'") ≡ Some value
unfolding powershell_typed quoted_whole
quoted_typed value h e =
    ap quoted_whole (powershell_reads_back value (powershell_escaped value) refl)
    ∙ ap (λ text. quoted_whole (Some (text, []))) (no_spaces value h)
    ∙ ap (λ b. choose b None (Some value)) e

word_typed : (value : List ℕ) → IsWithout line_feed value → is_found begins_other_quote value ≡ false → powershell_typed (powershell_word value) ≡ Some value
unfolding powershell_word
word_typed value h e = by_test (is_powershell_bare value) refl
  where
    by_test : (b : Bool) → is_powershell_bare value ≡ b → powershell_typed (choose b value (codes "'" ++ powershell_escaped value ++ codes "'")) ≡ Some value
    by_test true bare = bare_typed value bare
    by_test false bare = quoted_typed value h e

-- ---- a line

some_byte : (byte : ℕ) (text : List ℕ) → has_byte (byte ∷ text) ≡ true
some_byte byte text = ap not (ne_eqb (length (byte ∷ text)) 0 (λ none. omega arith))

word_byte : (word value : List ℕ) → powershell_typed word ≡ Some value → has_byte word ≡ true
unfolding powershell_typed
word_byte [] value e = cc
word_byte (byte ∷ word) value e = some_byte byte word

tooltip_byte : (value : List ℕ) (help : Option (List ℕ)) → has_byte value ≡ true → has_byte (tooltip_of value help) ≡ true
unfolding tooltip_of
tooltip_byte value None h = h
tooltip_byte value (Some []) h = h
tooltip_byte value (Some (byte ∷ help)) h = some_byte byte help

-- a word, a tab, and the entry to list
typed_line : (passes_quotes : Bool) (word value listed : List ℕ) (item : Shown) → IsWithout tab word → powershell_typed word ≡ Some value → is_received passes_quotes value ≡ true
    → line_shown listed ≡ item → has_byte item.value ≡ true
    → powershell_line_read passes_quotes (word ++ tab ∷ listed) ≡ Some (record { inserted = value; listed = item.value; tooltip = tooltip_of item.value item.help })
unfolding powershell_line_read word_entry typed_entry after cut_at with_front
typed_line passes_quotes word value listed item h e r f k =
    let entry : Shown → _ = λ item. entry_of word item.value (tooltip_of item.value item.help) in
    ap (word_entry passes_quotes) (past_lacking tab [] word (tab ∷ listed) (lacks tab word h))
    ∙ ap (λ word. word_entry passes_quotes (Some (word, listed))) (append-nil word)
    ∙ ap (λ item. typed_entry (option_and_then (received passes_quotes) (powershell_typed word)) (entry item)) f
    ∙ ap (λ typed. typed_entry (option_and_then (received passes_quotes) typed) (entry item)) e
    ∙ ap (λ b. typed_entry (cond b (Some value) None) (entry item)) r
    ∙ ap (option_map (typed_as value))
    (entry_made word item.value (tooltip_of item.value item.help) (word_byte word value e) k (tooltip_byte item.value item.help k))

line_reads : (passes_quotes : Bool) (candidate : CompletionCandidate) → is_powershell_insertable passes_quotes candidate.value ≡ true
    → ReadsLine IsOutputLine (powershell_line_read passes_quotes) (powershell_line (safe_shown candidate)) (Some (entry_shown (safe_shown candidate)))
unfolding powershell_line shown_line
line_reads passes_quotes candidate e =
    let value : List ℕ = candidate.value in
    let both = and_parts (is_safe_text value && not (is_found begins_other_quote value)) (is_received passes_quotes value) e in
    let parts = and_parts (is_safe_text value) (not (is_found begins_other_quote value)) both.0 in
    let has : has_byte value ≡ true = (and_parts (not (length value == 0)) (not (is_found begins_control value)) parts.0).0 in
    let word : List ℕ = powershell_word value in
    let listed : List ℕ = line_body (safe_shown candidate) in
    let no_feed : IsWithout line_feed value = safe_without line_feed refl value parts.0 in
    let no_return : IsWithout carriage_return value = safe_without carriage_return refl value parts.0 in
    record {
      body = word ++ tab ∷ listed;
      whole =
          sym (append_assoc (word ++ codes "\t") listed (codes "\n"))
          ∙ ap (λ text. text ++ codes "\n") (append_assoc word (codes "\t") listed);
      one_line = (
        AllByRecursion-append (λ b. (b == line_feed) ≡ false) word (tab ∷ listed)
            (word_without line_feed refl refl value no_feed) (refl, safe_line_without line_feed refl refl candidate parts.0),
        AllByRecursion-append (λ b. (b == carriage_return) ≡ false) word (tab ∷ listed)
            (word_without carriage_return refl refl value no_return) (refl, safe_line_without carriage_return refl refl candidate parts.0),
      );
      reads =
          typed_line passes_quotes word value listed (safe_shown candidate) (word_without tab refl refl value (safe_without tab refl value parts.0))
          (word_typed value no_feed (false_not (is_found begins_other_quote value) parts.1)) both.1
          (body_read value (safe_help candidate.help) (safe_without tab refl value parts.0)) has;
    }

pub words_read_back : (passes_quotes : Bool) (candidates : List CompletionCandidate) → PowershellWordsRead passes_quotes candidates
unfolding PowershellWordsRead output_lines ended
words_read_back passes_quotes candidates =
    lines_back IsOutputLine (output_lines false []) refl output_first (powershell_line_read passes_quotes) (λ candidate. Some (entry_shown (safe_shown candidate)))
    (λ candidate. is_powershell_insertable passes_quotes candidate.value)
    (λ candidate. powershell_line (safe_shown candidate)) (line_reads passes_quotes) candidates
