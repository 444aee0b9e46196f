-- The entries that PowerShell makes of a reply: it takes the output of a program line by line, and
-- a registration splits each line at its tabs.
use Rattle.std.specs.Prelude.{◌≡◌, ◌&&◌, ℕ, Bool, true, false, not, IsTrue, List, [], ◌∷◌, ◌++◌, ◌==◌, Option, Some, None, length, map}
use Rattle.std.specs.List.{list_all}
use Rattle.cc_base.specs.Bytes.{line_feed, tab}
use Rattle.cc_base.specs.Found.{ended, pieces_from}
use Rattle.cc_candidates.specs.declared.candidate.CompletionCandidate.{CompletionCandidate}
use Rattle.cc_replies.specs.Reply.{Shown, carriage_return, is_without, lines_reply, shown}

-- ---- lines

-- The lines of the output of a program, where `line` is the line so far. A line feed ends
-- a line. So does a carriage return, with the line feed that may follow it directly. Text after the
-- last end is a line too. `returned` is true directly after a carriage return.
unfoldable pub output_lines : Bool → List ℕ → List ℕ → List (List ℕ)
output_lines returned line [] = ended line []
output_lines returned line (byte ∷ text) = elim (byte == carriage_return) [
  | true ↦ line ∷ output_lines true [] text
  | false ↦ elim (byte == line_feed) [
    | true ↦ elim returned [
      | true ↦ output_lines false [] text
      | false ↦ line ∷ output_lines false [] text
    ]
    | false ↦ output_lines false (line ++ byte ∷ []) text
  ]
]

-- ---- entries

-- an entry of PowerShell's list: the text to insert, the text to list, and the tooltip
pub record Entry : Type 0 where
  pub inserted : List ℕ
  pub listed : List ℕ
  pub tooltip : List ℕ

abbrev pub has_byte : List ℕ → Bool
has_byte text = not (length text == 0)

-- the entry of three texts; `CompletionResult::new` refuses an empty one
unfoldable pub entry_of : List ℕ → List ℕ → List ℕ → Option Entry
entry_of inserted listed tooltip =
    elim (has_byte inserted && has_byte listed && has_byte tooltip) [
      | true ↦ Some (record { inserted = inserted; listed = listed; tooltip = tooltip })
      | false ↦ None
    ]

-- the tooltip of a value: its help text if that has a byte, or else the value
unfoldable pub tooltip_of : List ℕ → Option (List ℕ) → List ℕ
tooltip_of value (Some (byte ∷ help)) = byte ∷ help
tooltip_of value _ = value

-- the entry of a candidate: the value, and the help text that is shown
abbrev pub entry_shown : Shown → Entry
entry_shown item = record {
  inserted = item.value;
  listed = item.value;
  tooltip = tooltip_of item.value item.help;
}

-- The entry of a line, by its pieces between tabs. The second of exactly two pieces is the tooltip;
-- otherwise the first is.
unfoldable pub split_entry : List (List ℕ) → Option Entry
split_entry [] = None
split_entry (value ∷ help ∷ []) = entry_of value value help
split_entry (value ∷ _) = entry_of value value value

-- the entries of a reply, one for each line; `None` is a line that is refused
unfoldable pub entries_read : List ℕ → List (Option Entry)
entries_read text = map (λ line. split_entry (pieces_from tab [] line)) (output_lines false [] text)

-- ---- the condition under which a reply is read back

-- the text has a byte, and ends neither a line nor a piece of one
abbrev pub is_piece : List ℕ → Bool
is_piece text =
    has_byte text && is_without line_feed text && is_without carriage_return text
    && is_without tab text

abbrev pub is_help_piece : Option (List ℕ) → Bool
is_help_piece None = true
is_help_piece (Some help) = is_piece help

-- the value is such a text, and so is the first line of the help text
abbrev pub is_readable_entry : Shown → Bool
is_readable_entry item = is_piece item.value && is_help_piece item.help

-- each candidate is such
abbrev pub are_readable_entries : List CompletionCandidate → Bool
are_readable_entries candidates =
    list_all (λ candidate. is_readable_entry (shown candidate)) candidates

-- ---- the law

unfoldable pub EntriesRead : List CompletionCandidate → Type 0
EntriesRead candidates = IsTrue (are_readable_entries candidates)
    → entries_read (lines_reply candidates)
    ≡ map (λ candidate. Some (entry_shown (shown candidate))) candidates
