-- The text that bash inserts into its line, and how bash reads it there.
use Rattle.std.specs.Prelude.{◌≡◌, ℕ, Bool, true, false, not, ◌&&◌, ◌||◌, ◌==◌, List, [], ◌∷◌, ◌++◌, Option, Some, None, bytes_eq, codes, filter, flat_map, if◌then◌else◌, map, option_map}
use Rattle.std.specs.Char.{is_ascii, is_ascii_alphanumeric}
use Rattle.std.specs.List.{list_all, list_any}
use Rattle.std.specs.Option.{option_and_then}
use Rattle.cc_base.specs.Bytes as ascii
use Rattle.cc_base.specs.Found.{after}
use Rattle.cc_candidates.specs.declared.candidate.CompletionCandidate.{CompletionCandidate}
use Rattle.cc_quote.specs.BashDouble.{is_double_marked, bash_doubled}
use Rattle.cc_quote.specs.Escapes.{marked}
use Rattle.cc_replies.specs.Reply.{is_without, lines_from}
use Rattle.cc_replies.specs.SafeValues.{is_in_locale, is_safe_text, read_in_locale}
pub use Rattle.cc_replies.specs.declared.cursor.Cursor.{Cursor}
pub use Rattle.cc_replies.specs.declared.cursor.OpenQuote.{OpenQuote}
pub use Rattle.cc_replies.specs.declared.cursor.OpenQuote.TheVariants.{Bare, Single, Double}

-- the byte `!`
abbrev pub exclamation : ℕ
exclamation = 33

-- the quote that the text names: `'`, `"`, or none
abbrev pub open_quote : List ℕ → OpenQuote
open_quote text =
    if bytes_eq text (codes "'") then Single
    else (if bytes_eq text (codes "\"") then Double else Bare)

-- it is `"`
abbrev pub is_double : OpenQuote → Bool
is_double Double = true
is_double _ = false

-- the home directory, at the start of a word
abbrev pub home_start : List ℕ
home_start = codes "~/"

-- ---- bash's reader of the text after the part that it keeps

-- In a bare word, bash reads the byte as itself: an ASCII letter or digit, one of these, or a byte
-- of a character that is not ASCII.
abbrev pub is_bare_byte : ℕ → Bool
is_bare_byte byte =
    is_ascii_alphanumeric byte || list_any (λ plain. byte == plain) (codes "_./:@%+=,-")
    || not (is_ascii byte)

-- The word that a text spells, given whether a backslash precedes it, which bytes stand for
-- themselves, and which may follow a backslash. There is none if another byte occurs, or if a
-- backslash is last.
unfoldable pub word_read : (ℕ → Bool) → (ℕ → Bool) → Bool → List ℕ → Option (List ℕ)
word_read is_kept is_escaped false [] = Some []
word_read is_kept is_escaped true [] = None
word_read is_kept is_escaped true (byte ∷ line) = elim (is_escaped byte) [
  | true ↦ option_map (λ word. byte ∷ word) (word_read is_kept is_escaped false line)
  | false ↦ None
]
word_read is_kept is_escaped false (byte ∷ line) = elim (byte == ascii.backslash) [
  | true ↦ word_read is_kept is_escaped true line
  | false ↦ elim (is_kept byte) [
    | true ↦ option_map (λ word. byte ∷ word) (word_read is_kept is_escaped false line)
    | false ↦ None
  ]
]

-- bare: bash removes a backslash together with the line feed after it
abbrev pub is_bare_escaped : ℕ → Bool
is_bare_escaped byte = not (byte == ascii.line_feed)

unfoldable pub bare_read : List ℕ → Option (List ℕ)
bare_read line = word_read is_bare_byte is_bare_escaped false line

-- a bare word from its start, where `~/` stands for itself
unfoldable pub bare_word_read : List ℕ → Option (List ℕ)
bare_word_read line = elim (after home_start line) [
  | Some rest ↦ option_map (λ word. home_start ++ word) (bare_read rest)
  | None ↦ bare_read line
]

-- between `"`: neither a `"` nor a byte that bash replaces there
abbrev pub is_double_kept : ℕ → Bool
is_double_kept byte = not (is_double_marked byte || byte == exclamation)

unfoldable pub double_read : List ℕ → Option (List ℕ)
double_read line = word_read is_double_kept is_double_marked false line

-- Between `'`: any byte except `'`, and in a here-document, where quotes have no meaning, except for
-- what is replaced there. bash does not tell a function that it is in one.
abbrev pub is_single_lost : ℕ → Bool
is_single_lost byte =
    byte == ascii.single_quote || byte == ascii.dollar || byte == ascii.backtick

unfoldable pub single_read : List ℕ → Option (List ℕ)
single_read [] = Some []
single_read (byte ∷ line) = elim (is_single_lost byte) [
  | true ↦ None
  | false ↦ option_map (λ word. byte ∷ word) (single_read line)
]

-- The text that bash reads from a line after the part that it keeps, in the quote that is open
-- there. There is none if bash would read a byte as anything but a part of the word.
unfoldable pub bash_line_word : List ℕ → OpenQuote → List ℕ → Option (List ℕ)
bash_line_word kept Single line = single_read line
bash_line_word kept Double line = double_read line
bash_line_word [] Bare line = bare_word_read line
bash_line_word (_ ∷ _) Bare line = bare_read line

-- ---- the text that is written

-- a byte that follows a backslash in a bare word
abbrev pub is_bare_marked : ℕ → Bool
is_bare_marked byte = list_any (λ special. byte == special) (codes " !\"#$&'()*;<>?[\\]^`{|}~")

-- a bare word from its start
unfoldable pub start_text : List ℕ → List ℕ
start_text word = elim (after home_start word) [
  | Some below ↦ home_start ++ marked is_bare_marked below
  | None ↦ marked is_bare_marked word
]

-- the text after the part that bash keeps, in a bare word
unfoldable pub bare_text : List ℕ → List ℕ → List ℕ
bare_text [] rest = start_text rest
bare_text (_ ∷ _) rest = marked is_bare_marked rest

-- the text after the part that bash keeps, in the quote that is open there
unfoldable pub bash_text : List ℕ → OpenQuote → List ℕ → List ℕ
bash_text kept Bare rest = bare_text kept rest
bash_text kept Single rest = rest
bash_text kept Double rest = bash_doubled rest

-- the line of a value that begins with that part
unfoldable pub bash_word_line : Cursor → List ℕ → List ℕ
bash_word_line cursor value = elim (after cursor.kept value) [
  | Some rest ↦ bash_text cursor.kept cursor.quote rest ++ codes "\n"
  | None ↦ []
]

-- The text can be written in the open quote. A `'` would end `'`, and nothing keeps a here-document
-- from replacing `$` and a backtick there. Between `"` nothing keeps bash from replacing `!`.
abbrev pub holds : OpenQuote → List ℕ → Bool
holds Bare rest = true
holds Single rest = list_all (λ byte. not (is_single_lost byte)) rest
holds Double rest = is_without exclamation rest

abbrev pub holds_rest : OpenQuote → Option (List ℕ) → Bool
holds_rest quote None = false
holds_rest quote (Some rest) = holds quote rest

-- The value has a byte and no control character, bash's locale takes it as it is, and it begins with
-- the part that bash keeps. The text after that part can be written in the open quote.
abbrev pub is_bash_insertable : Cursor → List ℕ → Bool
is_bash_insertable cursor value =
    is_safe_text value && is_in_locale cursor.ascii_only value
    && holds_rest cursor.quote (after cursor.kept value)

-- a line for each such value
abbrev pub bash_words_reply : Cursor → List CompletionCandidate → List ℕ
bash_words_reply cursor candidates =
    flat_map (λ candidate. bash_word_line cursor candidate.value)
    (filter (λ candidate. is_bash_insertable cursor candidate.value) candidates)

-- ---- the law

-- The value that bash reads from a line: the part that it keeps, and the text after that part. The
-- reader goes from byte to byte, as bash does in UTF-8 and if each byte is one letter. In any other
-- locale, `ascii_only`, this is known of ASCII alone, and no other value is read.
unfoldable pub bash_value_read : Cursor → List ℕ → Option (List ℕ)
bash_value_read cursor line =
    option_and_then (read_in_locale cursor.ascii_only)
    (option_map (λ rest. cursor.kept ++ rest) (bash_line_word cursor.kept cursor.quote line))

-- bash reads each such value
unfoldable pub BashWordsRead : Cursor → List CompletionCandidate → Type 0
BashWordsRead cursor candidates =
    map (bash_value_read cursor) (lines_from [] (bash_words_reply cursor candidates))
    ≡ map (λ candidate. Some candidate.value)
    (filter (λ candidate. is_bash_insertable cursor candidate.value) candidates)
