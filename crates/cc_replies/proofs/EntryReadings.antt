-- PowerShell makes the entries of a reply that were written.
use Rattle.std.proofs.Common.{◌≡◌, ◌==◌, ◌&&◌, ℕ, true, false, List, [], ◌∷◌, ◌++◌, Option, Some, None, map, codes, refl, sym, ◌∙◌, ap, ap₂, append_assoc, append-nil}
use Rattle.std.proofs.lemmas.Bool.{and_parts}
use Rattle.std.specs.Prelude.{⊤}
use Rattle.cc_base.specs.Bytes.{line_feed, tab}
use Rattle.cc_base.specs.Found.{ended, pieces_from}
use Rattle.cc_base.proofs.Cases.{choose}
use Rattle.cc_base.proofs.Members.{AllByRecursion-append}
use Rattle.cc_candidates.specs.declared.candidate.CompletionCandidate.{CompletionCandidate}
use Rattle.cc_replies.specs.PowershellEntries.{EntriesRead, Entry, are_readable_entries, entries_read, entry_of, has_byte, is_help_piece, is_piece, is_readable_entry, output_lines, split_entry, tooltip_of}
use Rattle.cc_replies.specs.Reply.{Shown, carriage_return, is_without, lines_reply, shown, shown_line, tab_help}
use Rattle.cc_replies.proofs.FirstLines.{IsWithout}
use Rattle.cc_replies.proofs.ReplyReadings.{IsHelpWithout, line_body, piece_ends, piece_on, without}

-- ---- lines

-- a line continues
output_on : (line text rest : List ℕ) → IsWithout line_feed text → IsWithout carriage_return text → output_lines false line (text ++ rest) ≡ output_lines false (line ++ text) rest
unfolding output_lines
output_on line [] rest h k = ap (λ p. output_lines false p rest) (sym (append-nil line))
output_on line (byte ∷ text) rest h k =
    ap (λ b. choose b (line ∷ output_lines true [] (text ++ rest)) (choose (byte == line_feed) (line ∷ output_lines false [] (text ++ rest)) (output_lines false (line ++ byte ∷ []) (text ++ rest)))) k.0
    ∙ ap (λ b. choose b (line ∷ output_lines false [] (text ++ rest)) (output_lines false (line ++ byte ∷ []) (text ++ rest))) h.0
    ∙ output_on (line ++ byte ∷ []) text rest h.1 k.1
    ∙ ap (λ p. output_lines false p rest) (append_assoc line (byte ∷ []) text)

-- no byte of the text ends a line
abbrev pub IsOutputLine : List ℕ → Type 0
IsOutputLine text = IsWithout line_feed text × IsWithout carriage_return text

-- a line ends
pub output_first : (body rest : List ℕ) → IsOutputLine body → output_lines false [] (body ++ line_feed ∷ rest) ≡ body ∷ output_lines false [] rest
unfolding output_lines
output_first body rest h = output_on [] body (line_feed ∷ rest) h.0 h.1

-- ---- entries

pub entry_made : (inserted listed tooltip : List ℕ) → has_byte inserted ≡ true → has_byte listed ≡ true → has_byte tooltip ≡ true
    → entry_of inserted listed tooltip ≡ Some (record { inserted = inserted; listed = listed; tooltip = tooltip })
unfolding entry_of
entry_made inserted listed tooltip h k l =
    let made : Option Entry = Some (record { inserted = inserted; listed = listed; tooltip = tooltip }) in
    ap (λ b. choose (b && has_byte listed && has_byte tooltip) made None) h
    ∙ ap (λ b. choose (b && has_byte tooltip) made None) k
    ∙ ap (λ b. choose b made None) l

tooltip_is : (value help : List ℕ) → has_byte help ≡ true → tooltip_of value (Some help) ≡ help
unfolding tooltip_of
tooltip_is value [] h = cc
tooltip_is value (byte ∷ help) h = refl

-- ---- the meaning of the tests

record IsPiece (text : List ℕ) : Type 0 where
  pub has : has_byte text ≡ true
  pub feeds : IsWithout line_feed text
  pub returns : IsWithout carriage_return text
  pub tabs : IsWithout tab text

abbrev IsHelpPiece : Option (List ℕ) → Type 0
IsHelpPiece None = ⊤
IsHelpPiece (Some help) = IsPiece help

piece : (text : List ℕ) → is_piece text ≡ true → IsPiece text
piece text e =
    let three = and_parts (has_byte text && is_without line_feed text && is_without carriage_return text) (is_without tab text) e in
    let two = and_parts (has_byte text && is_without line_feed text) (is_without carriage_return text) three.0 in
    let one = and_parts (has_byte text) (is_without line_feed text) two.0 in
    record {
      has = one.0;
      feeds = without line_feed text one.1;
      returns = without carriage_return text two.1;
      tabs = without tab text three.1;
    }

help_piece : (help : Option (List ℕ)) → is_help_piece help ≡ true → IsHelpPiece help
help_piece None e = tt
help_piece (Some help) e = piece help e

-- ---- a line and its entry

pub tab_help_without : (special : ℕ) → (tab == special) ≡ false → (help : Option (List ℕ)) → IsHelpWithout special help → IsWithout special (tab_help help)
unfolding tab_help
tab_help_without special e None h = tt
tab_help_without special e (Some help) h = (e, h)

one_line : (value : List ℕ) (help : Option (List ℕ)) → IsPiece value → IsHelpPiece help → IsOutputLine (value ++ tab_help help)
one_line value help h k = (
  AllByRecursion-append (λ byte. (byte == line_feed) ≡ false) value (tab_help help) h.feeds (tab_help_without line_feed refl help (feeds help k)),
  AllByRecursion-append (λ byte. (byte == carriage_return) ≡ false) value (tab_help help) h.returns (tab_help_without carriage_return refl help (returns help k)),
)
  where
    feeds : (help : Option (List ℕ)) → IsHelpPiece help → IsHelpWithout line_feed help
    feeds None k = tt
    feeds (Some help) k = k.feeds

    returns : (help : Option (List ℕ)) → IsHelpPiece help → IsHelpWithout carriage_return help
    returns None k = tt
    returns (Some help) k = k.returns

body_entry : (value : List ℕ) (help : Option (List ℕ)) → IsPiece value → IsHelpPiece help
    → split_entry (pieces_from tab [] (value ++ tab_help help)) ≡ Some (record { inserted = value; listed = value; tooltip = tooltip_of value help })
unfolding split_entry tab_help tooltip_of
body_entry value None h k =
    ap split_entry (piece_on tab [] value [] h.tabs)
    ∙ entry_made value value value h.has h.has h.has
body_entry value (Some help) h k =
    ap split_entry
    (piece_on tab [] value (tab ∷ help) h.tabs
    ∙ piece_ends tab value help
    ∙ ap (λ pieces. value ∷ pieces) (ap (pieces_from tab []) (sym (append-nil help)) ∙ piece_on tab [] help [] k.tabs))
    ∙ entry_made value value help h.has h.has k.has
    ∙ ap (λ tooltip. Some (record { inserted = value; listed = value; tooltip = tooltip })) (sym (tooltip_is value help k.has))

pub entries_back : (candidates : List CompletionCandidate) → EntriesRead candidates
unfolding EntriesRead entries_read output_lines ended shown_line
entries_back [] e = refl
entries_back (candidate ∷ candidates) e =
    let item : Shown = shown candidate in
    let parts = and_parts (is_readable_entry item) (are_readable_entries candidates) e in
    let both = and_parts (is_piece item.value) (is_help_piece item.help) parts.0 in
    let value = piece item.value both.0 in
    let help = help_piece item.help both.1 in
    ap (λ text. map line_entry (output_lines false [] text)) (append_assoc (line_body item) (codes "\n") (lines_reply candidates))
    ∙ ap (map line_entry) (output_first (line_body item) (lines_reply candidates) (one_line item.value item.help value help))
    ∙ ap₂ (λ entry entries. entry ∷ entries) (body_entry item.value item.help value help) (entries_back candidates parts.1)
  where
    line_entry : List ℕ → Option Entry
    line_entry line = split_entry (pieces_from tab [] line)
