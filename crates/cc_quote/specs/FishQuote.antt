-- Words as fish reads them, and the quoting of a text for fish.
use Rattle.std.specs.Prelude.{◌≡◌, ℕ, Bool, true, false, List, [], ◌∷◌, ◌++◌, Option, Some, None, option_map, codes, ◌==◌, ◌||◌, if◌then◌else◌}
use Rattle.std.specs.Char.{is_ascii_alphanumeric}
use Rattle.std.specs.List.{list_all, list_any}
use Rattle.cc_base.specs.Bytes as ascii
use Rattle.cc_quote.specs.Escapes.{backslashed, escaped_by, marked}
use Rattle.cc_quote.specs.QuotedWord.{line_feeds_as_spaces}
use Rattle.cc_quote.specs.WordReader.{word_from, after_double_quote}
use Rattle.cc_quote.specs.declared.fish_reader.QuoteState.{QuoteState}
use Rattle.cc_quote.specs.declared.fish_reader.QuoteState.TheVariants.{Bare, BareEscaped, InSingle, InSingleEscaped, InDouble, InDoubleEscaped}
use Rattle.memchr.specs.Find.{is_byte3}

-- ---- how a word is read

-- what a byte means to the reader of a word: a space or a tab, a line feed, `'`, `"`, `\`, `$`,
-- `#`, or any other
pub data FishSign : Type 0 where
  blank : FishSign
  line_feed : FishSign
  single : FishSign
  double : FishSign
  backslash : FishSign
  dollar : FishSign
  hash : FishSign
  other : FishSign

-- the sign of a byte
unfoldable pub fish_sign : ℕ → FishSign
fish_sign byte =
    if byte == ascii.space || byte == ascii.tab then blank
    else if byte == ascii.line_feed then line_feed
    else if byte == ascii.single_quote then single else if byte == ascii.double_quote then double
    else if byte == ascii.backslash then backslash else if byte == ascii.dollar then dollar
    else if byte == ascii.hash then hash else other

-- the state after one more character with the given sign; `None` if the word ends before it
abbrev pub next_quote : QuoteState → FishSign → Option QuoteState
next_quote Bare blank = None
next_quote Bare line_feed = None
next_quote Bare single = Some InSingle
next_quote Bare double = Some InDouble
next_quote Bare backslash = Some BareEscaped
next_quote Bare _ = Some Bare
next_quote BareEscaped _ = Some Bare
next_quote InSingle single = Some Bare
next_quote InSingle backslash = Some InSingleEscaped
next_quote InSingle _ = Some InSingle
next_quote InSingleEscaped _ = Some InSingle
next_quote InDouble double = Some Bare
next_quote InDouble backslash = Some InDoubleEscaped
next_quote InDouble _ = Some InDouble
next_quote InDoubleEscaped _ = Some InDouble

-- what a character spells after a backslash outside quotes: a tab for `t` (116), a line feed for
-- `n` (110), and itself for any other
abbrev pub unescaped : ℕ → List ℕ → List ℕ
unescaped character bytes =
    if character == 116 then ascii.tab ∷ []
    else (if character == 110 then ascii.line_feed ∷ [] else bytes)

-- the word after one more character with the given sign, number and bytes
abbrev pub word_after : QuoteState → FishSign → ℕ → List ℕ → List ℕ → List ℕ
word_after Bare single _ word bytes = word
word_after Bare double _ word bytes = word
word_after Bare backslash _ word bytes = word
word_after BareEscaped _ character word bytes = word ++ unescaped character bytes
word_after InSingle single _ word bytes = word
word_after InSingle backslash _ word bytes = word
word_after InSingleEscaped single _ word bytes = word ++ bytes
word_after InSingleEscaped backslash _ word bytes = word ++ bytes
word_after InSingleEscaped _ _ word bytes = word ++ codes "\\" ++ bytes
word_after InDouble double _ word bytes = word
word_after InDouble backslash _ word bytes = word
word_after InDoubleEscaped double _ word bytes = word ++ bytes
word_after InDoubleEscaped backslash _ word bytes = word ++ bytes
word_after InDoubleEscaped dollar _ word bytes = word ++ bytes
word_after InDoubleEscaped line_feed _ word bytes = word
word_after InDoubleEscaped _ _ word bytes = word ++ codes "\\" ++ bytes
word_after _ _ _ word bytes = word ++ bytes

-- the same by the number of a character, which determines its sign
abbrev pub fish_next : QuoteState → ℕ → Option QuoteState
fish_next state character = next_quote state (fish_sign character)

abbrev pub fish_added : QuoteState → ℕ → List ℕ → List ℕ → List ℕ
fish_added state character word bytes = word_after state (fish_sign character) character word bytes

-- whether a word may end at a state: no quote and no escape is open
abbrev pub is_bare : QuoteState → Bool
is_bare Bare = true
is_bare _ = false

-- the state of the reader in a word, and what the word spells so far
pub data FishState : Type 0 where
  at : QuoteState → List ℕ → FishState

-- outside quotes, between two `'`, and between two `"`
abbrev pub bare : List ℕ → FishState
bare word = at Bare word

abbrev pub in_single : List ℕ → FishState
in_single word = at InSingle word

abbrev pub in_double : List ℕ → FishState
in_double word = at InDouble word

-- the state after one more byte; `None` if the word ends before it
abbrev pub next_state : FishState → ℕ → Option FishState
next_state (at state word) byte =
    option_map (λ next. at next (word_after state (fish_sign byte) byte word (byte ∷ [])))
    (next_quote state (fish_sign byte))

-- the state after several bytes; `None` if the word ends before the last of them
abbrev pub advance : Option FishState → List ℕ → Option FishState
advance state [] = state
advance None (byte ∷ bytes) = None
advance (Some state) (byte ∷ bytes) = advance (next_state state byte) bytes

-- what the word spells so far
abbrev pub spelled : FishState → List ℕ
spelled (at state word) = word

-- the word from a state on, and the rest; `None` if a quote or an escape is open at the end
abbrev pub fish_word_from : FishState → List ℕ → Option (List ℕ × List ℕ)
fish_word_from (at state word) text = word_from fish_next fish_added is_bare state word text

-- whether a word begins with a byte of the given sign: not with whitespace, nor with `#`, which
-- begins a comment
abbrev pub begins_word : FishSign → Bool
begins_word blank = false
begins_word line_feed = false
begins_word hash = false
begins_word _ = true

-- whether a text begins with a word
abbrev pub begins_with_word : List ℕ → Bool
begins_with_word [] = false
begins_with_word (byte ∷ bytes) = begins_word (fish_sign byte)

-- the word with which a text begins, and the rest
abbrev pub fish_word_of : List ℕ → Option (List ℕ × List ℕ)
fish_word_of text = if begins_with_word text then fish_word_from (bare []) text else None

-- the state after a character between two `"`; `None` after the closing `"`
abbrev pub double_next : QuoteState → ℕ → Option QuoteState
double_next InDouble character = fish_next InDouble character
double_next InDoubleEscaped character = fish_next InDoubleEscaped character
double_next _ character = None

-- what a text between two `"` spells from a state on, up to the closing `"`, and the rest
abbrev pub fish_double_from : FishState → List ℕ → Option (List ℕ × List ℕ)
fish_double_from (at state word) text = word_from double_next fish_added is_bare state word text

-- what a text that begins with `"` spells up to the closing `"`, and the rest
abbrev pub fish_double_of : List ℕ → Option (List ℕ × List ℕ)
fish_double_of text = after_double_quote (fish_double_from (in_double [])) text

-- ---- how a text is quoted

-- whether a byte needs no quotes: an ASCII letter, a digit or one of `/ _ - . , + = : @`
unfoldable pub is_fish_safe : ℕ → Bool
is_fish_safe byte =
    is_ascii_alphanumeric byte || list_any (λ safe. byte == safe) (codes "/_-.,+=:@")

-- whether a text is not empty and no byte of it needs quotes
abbrev pub is_fish_safe_word : List ℕ → Bool
is_fish_safe_word [] = false
is_fish_safe_word (byte ∷ bytes) = list_all is_fish_safe (byte ∷ bytes)

-- whether a byte follows a backslash between two `'`: `\` or `'`
abbrev pub is_single_marked : ℕ → Bool
is_single_marked byte = byte == ascii.backslash || byte == ascii.single_quote

-- a text as it is written between two `'`
abbrev pub single_escaped : List ℕ → List ℕ
single_escaped text = marked is_single_marked text

-- whether a byte follows a backslash between two `"`: `\`, `"` or `$`
abbrev pub is_double_marked : ℕ → Bool
is_double_marked byte =
    byte == ascii.backslash || byte == ascii.double_quote || byte == ascii.dollar

-- a text as it is written between two `"`
abbrev pub double_escaped : List ℕ → List ℕ
double_escaped text = marked is_double_marked text

-- a text in `'`, with the quotes
abbrev pub single_quoted : List ℕ → List ℕ
single_quoted text = codes "'" ++ single_escaped text ++ codes "'"

-- a text as one word of fish
unfoldable pub fish_quoted : List ℕ → List ℕ
fish_quoted text = if is_fish_safe_word text then text else single_quoted text

-- a text as one word of a text between two `"` that is read a second time: the word, escaped again
unfoldable pub fish_quoted_for_eval : List ℕ → List ℕ
fish_quoted_for_eval text = double_escaped (fish_quoted text)

-- a help text there: always in quotes, with each line feed as a space
unfoldable pub fish_help_for_eval_of : List ℕ → List ℕ
fish_help_for_eval_of help = double_escaped (single_quoted (line_feeds_as_spaces help))

-- the replacement of a byte of a description: a space for a line feed, and a backslash before any
-- other
abbrev pub description_replacement : ℕ → List ℕ
description_replacement byte = if byte == ascii.line_feed then codes " " else backslashed byte

-- a description as it is written between two `'`
unfoldable pub fish_escaped : List ℕ → List ℕ
fish_escaped text =
    escaped_by (is_byte3 ascii.backslash ascii.single_quote ascii.line_feed)
    description_replacement text

-- Between two `"` the text is read as the text that it spells, and that text is read as one word.
pub record ReadsTwice (quoted word : List ℕ) : Type 0 where
  pub between : List ℕ
  pub first : fish_double_of (codes "\"" ++ quoted ++ codes "\"") ≡ Some (between, [])
  pub second : fish_word_of between ≡ Some (word, [])
