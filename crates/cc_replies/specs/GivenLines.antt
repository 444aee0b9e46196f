-- The candidates in given lines: the output of a command, or the contents of a file.
use Rattle.std.specs.Prelude.{ℕ, Bool, false, not, ◌&&◌, ◌==◌, List, [], ◌∷◌, Option, Some, None, bytes_eq, encode_utf8_all, filter, map, reverse, if◌then◌else◌}
use Rattle.std.specs.Char.{is_control}
use Rattle.std.specs.Str.{chars, is_utf8}
use Rattle.cc_base.specs.Bytes.{dash, line_feed, tab}
use Rattle.cc_base.specs.Found.{cut_at, pieces_from, without_blanks}
use Rattle.cc_candidates.specs.Candidate.{new_candidate}
use Rattle.cc_candidates.specs.declared.candidate.CompletionCandidate.{CompletionCandidate}
use Rattle.cc_replies.specs.Reply.{without_return}
use Rattle.cc_replies.specs.SafeValues.{is_safe_text}

-- ---- a line

-- a value and its description, as the bytes of a line; a missing description is empty
pub record Entry : Type 0 where
  pub value : List ℕ
  pub description : List ℕ

-- the text before the first occurrence of a mark, and the text after it; without the mark, the
-- whole text and no description
unfoldable pub cut_entry : List ℕ → List ℕ → Entry
cut_entry mark text = elim (cut_at mark text) [
  | Some (before, rest) ↦ record { value = before; description = rest }
  | None ↦ record { value = text; description = [] }
]

-- the text without the whitespace at its end
unfoldable pub without_last_blanks : List ℕ → List ℕ
without_last_blanks text = reverse (without_blanks (reverse text))

-- the text without the whitespace at its start and at its end
abbrev pub trimmed : List ℕ → List ℕ
trimmed text = without_last_blanks (without_blanks text)

abbrev pub trimmed_entry : Entry → Entry
trimmed_entry entry = record {
  value = trimmed entry.value;
  description = trimmed entry.description;
}

-- Without a separator, the first tab ends the value. With one, whitespace at the start of the line
-- does not count, so that a space as the separator takes the first column.
unfoldable pub line_entry : Option (List ℕ) → List ℕ → Entry
line_entry None line = cut_entry (tab ∷ []) line
line_entry (Some separator) line = trimmed_entry (cut_entry separator (without_blanks line))

-- ---- the lines that count

abbrev pub begins_dash : List ℕ → Bool
begins_dash [] = false
begins_dash (byte ∷ text) = byte == dash

-- The text has a byte, no control character, and no `-` at its start. A program would take a word
-- that begins with `-` as an option.
abbrev pub is_given_text : List ℕ → Bool
is_given_text value = is_safe_text value && not (begins_dash value)

-- the value is UTF-8, and such a text
abbrev pub is_given_value : List ℕ → Bool
is_given_value value = is_utf8 value && is_given_text value

-- the entry, if its value is such
abbrev pub if_given : Entry → List Entry
if_given entry = if is_given_value entry.value then entry ∷ [] else []

-- the entries whose value no earlier one has
abbrev pub first_of_values : List Entry → List Entry
first_of_values [] = []
first_of_values (entry ∷ entries) =
    entry ∷ filter (λ other. not (bytes_eq entry.value other.value)) (first_of_values entries)

-- the entries of the lines with such values; a line ends before a line feed, and before a carriage
-- return directly before that
abbrev pub given_entries : Option (List ℕ) → List ℕ → List Entry
given_entries split text =
    filter (λ entry. is_given_value entry.value)
    (map (λ line. line_entry split (without_return line)) (pieces_from line_feed [] text))

-- ---- candidates

-- the text without its control characters
abbrev pub without_controls : List ℕ → List ℕ
without_controls text =
    encode_utf8_all (filter (λ character. not (is_control character)) (chars text))

-- the text, if it has a byte
abbrev pub if_some : List ℕ → Option (List ℕ)
if_some [] = None
if_some (byte ∷ text) = Some (byte ∷ text)

-- the help text that a description becomes: none, if it is not UTF-8 or if nothing is left
unfoldable pub description_help : List ℕ → Option (List ℕ)
description_help description =
    if is_utf8 description then if_some (without_controls description) else None

abbrev pub entry_candidate : Entry → CompletionCandidate
entry_candidate entry =
    record (new_candidate entry.value) { help = description_help entry.description }

-- the candidates in the lines of a text
abbrev pub candidates_of_lines : Option (List ℕ) → List ℕ → List CompletionCandidate
candidates_of_lines split text = map entry_candidate (first_of_values (given_entries split text))

-- list 0 has these candidates, and no other list has any
abbrev pub listed_at : List CompletionCandidate → ℕ → List CompletionCandidate
listed_at candidates list = if list == 0 then candidates else []
