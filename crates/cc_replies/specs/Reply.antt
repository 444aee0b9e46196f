-- Replies: the candidates as the shells read them, and how a reply is read.
use Rattle.std.specs.Prelude.{◌≡◌, ◌&&◌, ℕ, Bool, true, false, not, IsTrue, List, [], ◌∷◌, ◌++◌, ◌==◌, Option, Some, None, length, map, flat_map, option_map, codes}
use Rattle.std.specs.List.{list_all}
use Rattle.cc_base.specs.Bytes.{backslash, colon, line_feed, tab}
use Rattle.cc_base.specs.Joined.{joined}
use Rattle.cc_quote.specs.ZshQuote.{Mark, marks, unmarked}
use Rattle.cc_quote.specs.ZshQuote.Mark.{kept, escaped, unended}
use Rattle.cc_quote.specs.ZshReply.{zsh_replied_help, zsh_replied_value}
use Rattle.cc_base.specs.Found.{cut_at, pieces_from}
use Rattle.cc_candidates.specs.declared.candidate.CompletionCandidate.{CompletionCandidate}

abbrev pub carriage_return : ℕ
carriage_return = 13

-- a line without a carriage return at its end
unfoldable pub without_return : List ℕ → List ℕ
without_return [] = []
without_return (byte ∷ []) = elim (byte == carriage_return) [ true ↦ [] | false ↦ byte ∷ [] ]
without_return (byte ∷ next ∷ line) = byte ∷ without_return (next ∷ line)

-- The text before the first line feed, without a carriage return directly before that. Without a
-- line feed, the whole text.
unfoldable pub first_line : List ℕ → List ℕ
first_line text = elim (cut_at (line_feed ∷ []) text) [
  | Some (line, rest) ↦ without_return line
  | None ↦ text
]

-- the part of a candidate that is in a reply: its value and the first line of its help text
pub record Shown : Type 0 where
  pub value : List ℕ
  pub help : Option (List ℕ)

abbrev pub shown : CompletionCandidate → Shown
shown candidate = record { value = candidate.value; help = option_map first_line candidate.help }

-- ---- the texts

-- only the values, joined
abbrev pub values_reply : List ℕ → List CompletionCandidate → List ℕ
values_reply between candidates = joined between (map (λ candidate. candidate.value) candidates)

-- a help text after a colon
unfoldable pub colon_help : Option (List ℕ) → List ℕ
colon_help None = []
colon_help (Some help) = codes ":" ++ zsh_replied_help help

-- a value, and its help text after a colon
unfoldable pub zsh_item : Shown → List ℕ
zsh_item item = zsh_replied_value item.value ++ colon_help item.help

-- such items, joined
abbrev pub zsh_reply : List ℕ → List CompletionCandidate → List ℕ
zsh_reply between candidates =
    joined between (map (λ candidate. zsh_item (shown candidate)) candidates)

-- a help text after a tab
unfoldable pub tab_help : Option (List ℕ) → List ℕ
tab_help None = []
tab_help (Some help) = codes "\t" ++ help

-- a line with a value, and its help text after a tab
unfoldable pub shown_line : Shown → List ℕ
shown_line item = item.value ++ tab_help item.help ++ codes "\n"

-- a line for each candidate
abbrev pub candidate_line : CompletionCandidate → List ℕ
candidate_line candidate = shown_line (shown candidate)

abbrev pub lines_reply : List CompletionCandidate → List ℕ
lines_reply candidates = flat_map candidate_line candidates

-- ---- the readers

-- the values of a reply; an empty one has none
unfoldable pub values_read : ℕ → List ℕ → List (List ℕ)
values_read separator [] = []
values_read separator (byte ∷ text) = pieces_from separator [] (byte ∷ text)

-- A value, up to the first colon without a backslash before it, and a help text after that colon,
-- both without the backslashes.
unfoldable pub shown_from : List ℕ → List Mark → Option Shown
shown_from value [] = Some (record { value = value; help = None })
shown_from value (unended ∷ rest) = None
shown_from value (escaped byte ∷ rest) = shown_from (value ++ byte ∷ []) rest
shown_from value (kept byte ∷ rest) = elim (byte == colon) [
  | true ↦ option_map (λ help. record { value = value; help = Some help }) (unmarked rest)
  | false ↦ shown_from (value ++ byte ∷ []) rest
]

-- the items of a reply to zsh, piece by piece
unfoldable pub zsh_read : ℕ → List ℕ → List (Option Shown)
zsh_read separator text = map (λ piece. shown_from [] (marks piece)) (values_read separator text)

-- the lines that end in a line feed, where `line` is the line so far
unfoldable pub lines_from : List ℕ → List ℕ → List (List ℕ)
lines_from line [] = []
lines_from line (byte ∷ text) = elim (byte == line_feed) [
  | true ↦ line ∷ lines_from [] text
  | false ↦ lines_from (line ++ byte ∷ []) text
]

-- a value, up to the first tab, and a help text after it
unfoldable pub line_shown : List ℕ → Shown
line_shown line = elim (cut_at (tab ∷ []) line) [
  | Some (value, help) ↦ record { value = value; help = Some help }
  | None ↦ record { value = line; help = None }
]

-- the items of a reply to fish or PowerShell, line by line
unfoldable pub lines_read : List ℕ → List Shown
lines_read text = map line_shown (lines_from [] text)

-- ---- conditions under which replies are read back

-- the text does not contain this byte
abbrev pub is_without : ℕ → List ℕ → Bool
is_without special text = list_all (λ byte. not (byte == special)) text

abbrev pub is_help_without : ℕ → Option (List ℕ) → Bool
is_help_without special None = true
is_help_without special (Some help) = is_without special help

-- the value has a byte, and does not contain the separator
abbrev pub is_readable_value : ℕ → List ℕ → Bool
is_readable_value separator value = not (length value == 0) && is_without separator value

-- each value is such
abbrev pub are_readable_values : ℕ → List CompletionCandidate → Bool
are_readable_values separator candidates =
    list_all (λ candidate. is_readable_value separator candidate.value) candidates

-- the value is such, and the first line of the help text does not contain the separator
abbrev pub is_readable_zsh_item : ℕ → Shown → Bool
is_readable_zsh_item separator item =
    is_readable_value separator item.value && is_help_without separator item.help

-- the separator is neither the colon nor the backslash of such items, and each item is such
abbrev pub are_readable_zsh_items : ℕ → List CompletionCandidate → Bool
are_readable_zsh_items separator candidates =
    not (separator == colon) && not (separator == backslash)
    && list_all (λ candidate. is_readable_zsh_item separator (shown candidate)) candidates

-- the value contains neither a line feed nor a tab
abbrev pub is_readable_line : List ℕ → Bool
is_readable_line value = is_without line_feed value && is_without tab value

-- each value is such
abbrev pub are_readable_lines : List CompletionCandidate → Bool
are_readable_lines candidates = list_all (λ candidate. is_readable_line candidate.value) candidates

-- ---- the laws

-- with one byte between values, the reply is read back as the values
unfoldable pub ValuesRead : List ℕ → List CompletionCandidate → Type 0
ValuesRead between candidates =
    (separator : ℕ) → between ≡ separator ∷ [] → IsTrue (are_readable_values separator candidates)
    → values_read separator (values_reply between candidates)
    ≡ map (λ candidate. candidate.value) candidates

-- with one byte between items, the reply is read back as the values and the first lines of the help
-- texts
unfoldable pub ZshReplyRead : List ℕ → List CompletionCandidate → Type 0
ZshReplyRead between candidates =
    (separator : ℕ) → between ≡ separator ∷ []
    → IsTrue (are_readable_zsh_items separator candidates)
    → zsh_read separator (zsh_reply between candidates)
    ≡ map (λ candidate. Some (shown candidate)) candidates

unfoldable pub LinesRead : List CompletionCandidate → Type 0
LinesRead candidates = IsTrue (are_readable_lines candidates)
    → lines_read (lines_reply candidates) ≡ map shown candidates
