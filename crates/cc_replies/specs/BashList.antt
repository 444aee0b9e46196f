-- The list that bash shows when it inserts nothing: words, with descriptions in a column behind them.
use Rattle.std.specs.Prelude.{◌≡◌, ◌≢◌, ◌⊎◌, ℕ, ◌≤◌, ◌+◌, ◌-◌, IsTrue, max, nat_le, nat_lt, Bool, true, false, not, ◌&&◌, ◌==◌, List, [], ◌∷◌, ◌++◌, Contains, Option, Some, None, bytes_eq, codes, filter, find, flat_map, if◌then◌else◌, is_some, map, option_map, replicate}
use Rattle.std.specs.Fmt.{char_count, take_chars}
use Rattle.std.specs.List.{AllByRecursion, list_any}
use Rattle.std.specs.Option.{option_and_then}
use Rattle.cc_base.specs.Bytes as ascii
use Rattle.cc_base.specs.Found.{after, with_front}
use Rattle.cc_candidates.specs.declared.candidate.CompletionCandidate.{CompletionCandidate}
use Rattle.cc_replies.specs.BashWords.{Bare, Cursor, Double, OpenQuote, Single, bash_text, bash_value_read, bash_word_line, bash_words_reply, is_bash_insertable}
use Rattle.cc_replies.specs.Reply.{Shown, lines_from}
use Rattle.cc_replies.specs.SafeValues.{read_in_locale, safe_help}

abbrev pub space : ℕ
space = 32

-- ---- words

-- the quote that ends a word
abbrev pub closing_quote : OpenQuote → List ℕ
closing_quote Bare = []
closing_quote Single = codes "'"
closing_quote Double = codes "\""

-- a value as bash inserts it after the part that it keeps
unfoldable pub closed_word : Cursor → List ℕ → List ℕ
closed_word cursor value = elim (after cursor.kept value) [
  | Some rest ↦ bash_text cursor.kept cursor.quote rest ++ closing_quote cursor.quote
  | None ↦ []
]

-- such a value, of which bash does not keep everything
abbrev pub is_listed_word : Cursor → List ℕ → Bool
is_listed_word cursor value = is_bash_insertable cursor value && not (bytes_eq value cursor.kept)

-- some value passes the test, and is not this one
abbrev pub has_other : (List ℕ → Bool) → Option CompletionCandidate → List CompletionCandidate → Bool
has_other passes None candidates = false
has_other passes (Some first) candidates =
    list_any (λ candidate. passes candidate.value && not (bytes_eq candidate.value first.value))
    candidates

-- two values differ that pass the test
abbrev pub has_two : (List ℕ → Bool) → List CompletionCandidate → Bool
has_two passes candidates =
    has_other passes (find (λ candidate. passes candidate.value) candidates) candidates

-- ---- descriptions

-- the first line of a help text, unless it is empty, has a control character, or is not ASCII in a
-- locale that is safe for nothing else
unfoldable pub description_of : Bool → Option (List ℕ) → Option (List ℕ)
description_of ascii_only help = option_and_then (read_in_locale ascii_only) (safe_help help)

-- bash can insert the value, and there is a description
abbrev pub is_described : Cursor → CompletionCandidate → Bool
is_described cursor candidate =
    is_bash_insertable cursor candidate.value
    && is_some (description_of cursor.ascii_only candidate.help)

-- ---- the measures, in characters

abbrev pub greatest : List ℕ → ℕ
greatest [] = 0
greatest (number ∷ numbers) = max number (greatest numbers)

-- the longest word with a description
abbrev pub longest_word : Cursor → List CompletionCandidate → ℕ
longest_word cursor candidates =
    greatest (map (λ candidate. char_count (closed_word cursor candidate.value))
    (filter (is_described cursor) candidates))

-- what the terminal has for a description: besides the longest word there are two spaces and two
-- parentheses
abbrev pub width_left : Cursor → List CompletionCandidate → ℕ
width_left cursor candidates = cursor.width - (longest_word cursor candidates + 4)

-- A list has descriptions if a cut one keeps 20 characters, before the `..`, and if there are two
-- words: bash may insert a single line. This is what it has for a description, or 0.
abbrev pub list_room : Cursor → List CompletionCandidate → ℕ
list_room cursor candidates =
    if nat_le 22 (width_left cursor candidates) && has_two (is_listed_word cursor) candidates
    then width_left cursor candidates else 0

-- ---- the text

-- a description, cut to the room
abbrev pub cut_description : ℕ → List ℕ → List ℕ
cut_description room description =
    if nat_lt room (char_count description) then take_chars (room - 2) description ++ codes ".."
    else description

-- a word, spaces up to the column, and a description
abbrev pub described_text : List ℕ → ℕ → List ℕ → List ℕ
described_text word longest description =
    word ++ replicate (longest - char_count word) space ++ codes "  (" ++ description ++ codes ")"

-- the line of a candidate; without a description, that of its word alone
unfoldable pub list_line : Cursor → ℕ → ℕ → CompletionCandidate → List ℕ
list_line cursor longest room candidate =
    elim (description_of cursor.ascii_only candidate.help) [
      | Some description ↦ described_text (closed_word cursor candidate.value) longest
          (cut_description room description) ++ codes "\n"
      | None ↦ bash_word_line cursor candidate.value
    ]

-- the list of a terminal with this room; without room, the words alone
abbrev pub bash_list_in : Cursor → ℕ → ℕ → List CompletionCandidate → List ℕ
bash_list_in cursor longest room candidates =
    if room == 0 then bash_words_reply cursor candidates
    else flat_map (list_line cursor longest room)
    (filter (λ candidate. is_bash_insertable cursor candidate.value) candidates)

abbrev pub bash_list_reply : Cursor → List CompletionCandidate → List ℕ
bash_list_reply cursor candidates =
    bash_list_in cursor (longest_word cursor candidates) (list_room cursor candidates) candidates

-- ---- how a line is read

-- the byte that ends a word: a space, or the quote that is open
abbrev pub word_end : OpenQuote → ℕ
word_end Bare = space
word_end Single = ascii.single_quote
word_end Double = ascii.double_quote

-- the byte after this one belongs to the word, whatever it is
abbrev pub is_escape : OpenQuote → ℕ → Bool
is_escape Single byte = false
is_escape _ byte = byte == ascii.backslash

-- the text before the end of a word, and the text after it, given whether a backslash precedes
unfoldable pub word_cut : OpenQuote → Bool → List ℕ → Option (List ℕ × List ℕ)
word_cut quote escaped [] = None
word_cut quote true (byte ∷ line) = with_front (byte ∷ []) (word_cut quote false line)
word_cut quote false (byte ∷ line) = elim (byte == word_end quote) [
  | true ↦ Some ([], line)
  | false ↦ with_front (byte ∷ []) (word_cut quote (is_escape quote byte) line)
]

-- the text before a `)` at the end
unfoldable pub before_closing : List ℕ → Option (List ℕ)
before_closing [] = None
before_closing (byte ∷ []) = if byte == 41 then Some [] else None
before_closing (byte ∷ next ∷ text) =
    option_map (λ front. byte ∷ front) (before_closing (next ∷ text))

-- a description, after spaces and between parentheses
unfoldable pub description_read : List ℕ → Option (List ℕ)
description_read [] = None
description_read (byte ∷ text) = elim (byte == space) [
  | true ↦ description_read text
  | false ↦ elim (byte == 40) [ true ↦ before_closing text | false ↦ None ]
]

-- a value with a description, if there are both
abbrev pub shown_with : Option (List ℕ) → Option (List ℕ) → Option Shown
shown_with value None = None
shown_with value (Some description) =
    option_map (λ value. record { value = value; help = Some description }) value

-- The value and the description of a line: what bash reads from its word, as `bash_value_read`
-- says, and the text in parentheses after that. A line in which no word ends is a word.
unfoldable pub list_line_read : Cursor → List ℕ → Option Shown
list_line_read cursor line = elim (word_cut cursor.quote false line) [
  | Some (word, rest) ↦ shown_with (bash_value_read cursor word) (description_read rest)
  | None ↦ option_map (λ value. record { value = value; help = None })
      (bash_value_read cursor line)
]

-- ---- the law

-- what a list with this room shows of a candidate
abbrev pub shown_in : Bool → ℕ → CompletionCandidate → Shown
shown_in ascii_only room candidate = record {
  value = candidate.value;
  help = if room == 0 then None
      else option_map (cut_description room) (description_of ascii_only candidate.help);
}

-- two of the lines have a byte, and differ
pub record HasTwo (lines : List (List ℕ)) : Type 0 where
  pub first : List ℕ
  pub other : List ℕ
  pub first_in : Contains lines first
  pub other_in : Contains lines other
  pub first_some : first ≢ []
  pub other_some : other ≢ []
  pub differ : first ≢ other

-- a description is read
abbrev pub HasDescription : Option Shown → Type 0
HasDescription None = ⊥
HasDescription (Some item) = IsTrue (is_some item.help)

-- the line has no more characters than the terminal has columns, if a description is read from it
abbrev pub Fits : Cursor → List ℕ → Type 0
Fits cursor line = HasDescription (list_line_read cursor line) → char_count line ≤ cursor.width

pub record BashListRead (cursor : Cursor) (candidates : List CompletionCandidate) : Type 0 where
  -- each line is read back as a value that bash can insert and what is shown of its description
  pub lines : map (list_line_read cursor) (lines_from [] (bash_list_reply cursor candidates))
      ≡ map (λ candidate. Some (shown_in cursor.ascii_only (list_room cursor candidates) candidate))
      (filter (λ candidate. is_bash_insertable cursor candidate.value) candidates)
  -- each line with a description fits the terminal
  pub fits : AllByRecursion (Fits cursor) (lines_from [] (bash_list_reply cursor candidates))
  -- without a width, the reply consists of the words
  pub inserted : cursor.width ≡ 0
      → bash_list_reply cursor candidates ≡ bash_words_reply cursor candidates
  -- any other reply has two lines between which bash can not choose, so it inserts neither
  pub listed : (bash_list_reply cursor candidates ≡ bash_words_reply cursor candidates)
      ⊎ HasTwo (lines_from [] (bash_list_reply cursor candidates))
