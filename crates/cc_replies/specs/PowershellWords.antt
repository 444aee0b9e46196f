-- The reply to PowerShell: the text that it inserts into its line, and how it reads that text
-- there.
use Rattle.std.specs.Prelude.{◌≡◌, ℕ, Bool, true, false, not, ◌&&◌, ◌||◌, ◌==◌, if◌then◌else◌, List, [], ◌∷◌, ◌++◌, Option, Some, None, bytes_eq, codes, filter, flat_map, map, option_map}
use Rattle.std.specs.Char.{is_ascii_alphanumeric}
use Rattle.std.specs.List.{list_all, list_any}
use Rattle.std.specs.Option.{option_and_then}
use Rattle.cc_base.specs.Bytes.{colon, dash, double_quote, right_quote_first, right_quote_second, single_quote, tab}
use Rattle.cc_base.specs.Found.{cut_at}
use Rattle.cc_candidates.specs.declared.candidate.CompletionCandidate.{CompletionCandidate}
use Rattle.cc_quote.specs.PowershellQuote.{powershell_escaped, powershell_word_of}
use Rattle.cc_replies.specs.PowershellEntries.{Entry, entry_of, entry_shown, output_lines, tooltip_of}
use Rattle.cc_replies.specs.Reply.{Shown, is_without, line_shown, shown_line}
use Rattle.cc_replies.specs.SafeValues.{is_found, is_safe_text, safe_shown}

-- ---- PowerShell's reader of words

-- in a bare word, PowerShell reads the byte as itself: an ASCII letter or digit, or one of these
abbrev pub is_powershell_byte : ℕ → Bool
is_powershell_byte byte =
    is_ascii_alphanumeric byte || list_any (λ plain. byte == plain) (codes "_-/=:+.")

-- the name of a parameter ends before a `.` or a `:`
abbrev pub is_splitting : ℕ → Bool
is_splitting byte = byte == 46 || byte == colon

-- PowerShell takes the word for a parameter with its argument
abbrev pub is_split_parameter : List ℕ → Bool
is_split_parameter [] = false
is_split_parameter (byte ∷ rest) = byte == dash && list_any is_splitting rest

-- a bare word: at least one byte, all of which stand for themselves, and no parameter with its
-- argument
abbrev pub is_powershell_bare : List ℕ → Bool
is_powershell_bare [] = false
is_powershell_bare (byte ∷ word) =
    list_all is_powershell_byte (byte ∷ word) && not (is_split_parameter (byte ∷ word))

-- U+2018, U+201A or U+201B begins here, which PowerShell treats as `'` too: three bytes, the first
-- two as in U+2019
abbrev pub begins_other_quote : ℕ → List ℕ → Bool
begins_other_quote byte (second ∷ third ∷ rest) =
    byte == right_quote_first && second == right_quote_second
    && (third == 152 || third == 154 || third == 155)
begins_other_quote byte _ = false

-- the text of a quoted word, if nothing follows it and none of these characters is in it
unfoldable pub quoted_whole : Option (List ℕ × List ℕ) → Option (List ℕ)
quoted_whole (Some (value, [])) = elim (is_found begins_other_quote value) [
  | true ↦ None
  | false ↦ Some value
]
quoted_whole _ = None

-- The text of a word in the line, quoted or bare. There is none if PowerShell would read a byte as
-- anything but a part of the word.
unfoldable pub powershell_typed : List ℕ → Option (List ℕ)
powershell_typed [] = None
powershell_typed (byte ∷ word) = elim (byte == single_quote) [
  | true ↦ quoted_whole (powershell_word_of (byte ∷ word))
  | false ↦ elim (is_powershell_bare (byte ∷ word)) [
    | true ↦ Some (byte ∷ word)
    | false ↦ None
  ]
]

-- ---- what programs receive

-- Programs receive the word as it is. PowerShell drops `--%`, also a quoted one. Some of its versions
-- and settings do not escape a `"` in the command line that they make for a program; the others
-- are those with `passes_quotes`.
abbrev pub is_received : Bool → List ℕ → Bool
is_received passes_quotes word =
    not (bytes_eq word (codes "--%")) && (passes_quotes || is_without double_quote word)

-- such a word
abbrev pub received : Bool → List ℕ → Option (List ℕ)
received passes_quotes word = if is_received passes_quotes word then Some word else None

-- ---- the safe registration's reader of lines

-- an entry whose word is read as this text
abbrev pub typed_as : List ℕ → Entry → Entry
typed_as typed entry = record entry { inserted = typed }

-- the same, if there is a text and an entry
unfoldable pub typed_entry : Option (List ℕ) → Option Entry → Option Entry
typed_entry None entry = None
typed_entry (Some typed) entry = option_map (typed_as typed) entry

-- a word to insert, and the rest of its line: the value to list, and the tooltip
unfoldable pub word_entry : Bool → Option (List ℕ × List ℕ) → Option Entry
word_entry passes_quotes None = None
word_entry passes_quotes (Some (word, rest)) =
    typed_entry (option_and_then (received passes_quotes) (powershell_typed word))
    (entry_of word (line_shown rest).value
    (tooltip_of (line_shown rest).value (line_shown rest).help))

-- The entry of a line, which the registration splits into at most three pieces at its tabs. If the
-- third is missing or empty, the second is the tooltip. `None` is a line that is refused, and one
-- whose word PowerShell would not read as a word, or not pass to a program.
unfoldable pub powershell_line_read : Bool → List ℕ → Option Entry
powershell_line_read passes_quotes line = word_entry passes_quotes (cut_at (tab ∷ []) line)

-- ---- the text that is written

-- a value as a word, bare or quoted
unfoldable pub powershell_word : List ℕ → List ℕ
powershell_word value = elim (is_powershell_bare value) [
  | true ↦ value
  | false ↦ codes "'" ++ powershell_escaped value ++ codes "'"
]

-- the word, and the entry to list
unfoldable pub powershell_line : Shown → List ℕ
powershell_line item = powershell_word item.value ++ codes "\t" ++ shown_line item

-- the value has a byte, no control character, and none of the three quotes, and programs receive it
abbrev pub is_powershell_insertable : Bool → List ℕ → Bool
is_powershell_insertable passes_quotes value =
    is_safe_text value && not (is_found begins_other_quote value)
    && is_received passes_quotes value

-- a line for each candidate with such a value
abbrev pub powershell_words_reply : Bool → List CompletionCandidate → List ℕ
powershell_words_reply passes_quotes candidates =
    flat_map (λ candidate. powershell_line (safe_shown candidate))
    (filter (λ candidate. is_powershell_insertable passes_quotes candidate.value) candidates)

-- ---- the law

-- PowerShell inserts the value of each such candidate, and lists the value with the help that is
-- shown; no line is refused
unfoldable pub PowershellWordsRead : Bool → List CompletionCandidate → Type 0
PowershellWordsRead passes_quotes candidates =
    map (powershell_line_read passes_quotes)
    (output_lines false [] (powershell_words_reply passes_quotes candidates))
    ≡ map (λ candidate. Some (entry_shown (safe_shown candidate)))
    (filter (λ candidate. is_powershell_insertable passes_quotes candidate.value) candidates)
