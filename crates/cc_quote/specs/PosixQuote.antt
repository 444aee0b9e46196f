-- Words as a POSIX shell reads them, and the quoting of a text for a POSIX shell.
use Rattle.std.specs.Prelude.{ℕ, Bool, true, false, List, [], ◌∷◌, ◌++◌, Option, Some, None, codes, ◌==◌, ◌||◌, if◌then◌else◌}
use Rattle.std.specs.Char.{is_ascii_alphanumeric}
use Rattle.std.specs.List.{list_all, list_any}
use Rattle.cc_base.specs.Bytes.{single_quote as single_quote_byte}
use Rattle.cc_quote.specs.Escapes.{replace_byte}
use Rattle.cc_quote.specs.PosixSigns.{Sign, sign}
use Rattle.cc_quote.specs.PosixSigns.Sign.{blank, line_feed, single_quote, double_quote, backslash, special}
use Rattle.cc_quote.specs.WordReader.{word_from}
use Rattle.cc_quote.specs.declared.posix.QuoteState.{QuoteState}
use Rattle.cc_quote.specs.declared.posix.QuoteState.TheVariants.{Before, BeforeEscaped, Bare, BareEscaped, InSingle, InDouble, InDoubleEscaped}

-- ---- how a word is read

-- the state after one more byte with the given sign; `None` if the word ends before it
abbrev pub next_state : QuoteState → Sign → Option QuoteState
next_state Before (blank _) = None
next_state Before line_feed = None
next_state Before single_quote = Some InSingle
next_state Before double_quote = Some InDouble
next_state Before backslash = Some BeforeEscaped
next_state Before _ = Some Bare
next_state BeforeEscaped line_feed = Some Before
next_state BeforeEscaped _ = Some Bare
next_state Bare (blank _) = None
next_state Bare line_feed = None
next_state Bare single_quote = Some InSingle
next_state Bare double_quote = Some InDouble
next_state Bare backslash = Some BareEscaped
next_state Bare _ = Some Bare
next_state BareEscaped _ = Some Bare
next_state InSingle single_quote = Some Bare
next_state InSingle _ = Some InSingle
next_state InDouble double_quote = Some Bare
next_state InDouble backslash = Some InDoubleEscaped
next_state InDouble _ = Some InDouble
next_state InDoubleEscaped _ = Some InDouble

-- The word after one more character with the given sign and bytes. The bytes are added, except for
-- quotes that open or close, a backslash that escapes, and a line feed after such a backslash.
-- Between two `"` a backslash stays before a character that it does not escape.
abbrev pub word_after : QuoteState → Sign → List ℕ → List ℕ → List ℕ
word_after InSingle single_quote word bytes = word
word_after InSingle _ word bytes = word ++ bytes
word_after InDouble double_quote word bytes = word
word_after InDouble backslash word bytes = word
word_after InDouble _ word bytes = word ++ bytes
word_after InDoubleEscaped line_feed word bytes = word
word_after InDoubleEscaped double_quote word bytes = word ++ bytes
word_after InDoubleEscaped backslash word bytes = word ++ bytes
word_after InDoubleEscaped (special _) word bytes = word ++ bytes
word_after InDoubleEscaped _ word bytes = word ++ codes "\\" ++ bytes
word_after BeforeEscaped line_feed word bytes = word
word_after BeforeEscaped _ word bytes = word ++ bytes
word_after BareEscaped line_feed word bytes = word
word_after BareEscaped _ word bytes = word ++ bytes
word_after _ single_quote word bytes = word
word_after _ double_quote word bytes = word
word_after _ backslash word bytes = word
word_after _ _ word bytes = word ++ bytes

-- the same by the number of a character, which determines its sign
abbrev pub posix_next : QuoteState → ℕ → Option QuoteState
posix_next state character = next_state state (sign character)

abbrev pub posix_added : QuoteState → ℕ → List ℕ → List ℕ → List ℕ
posix_added state character word bytes = word_after state (sign character) word bytes

-- whether a word may end at a state: within a word, with no open quote and no open escape
abbrev pub is_bare : QuoteState → Bool
is_bare Bare = true
is_bare _ = false

-- the word from a state and a word so far on
unfoldable pub posix_word_from : QuoteState → List ℕ → List ℕ → Option (List ℕ × List ℕ)
posix_word_from state word text = word_from posix_next posix_added is_bare state word text

-- the word with which a text begins, and the rest
unfoldable pub posix_word_of : List ℕ → Option (List ℕ × List ℕ)
posix_word_of text = posix_word_from Before [] text

-- ---- how a text is quoted

-- whether a byte needs no quotes: an ASCII letter, a digit or one of `+ - . / : @ _`
unfoldable pub is_posix_safe : ℕ → Bool
is_posix_safe byte = is_ascii_alphanumeric byte || list_any (λ safe. byte == safe) (codes "+-./:@_")

-- whether a text is not empty and no byte of it needs quotes
unfoldable pub is_posix_safe_word : List ℕ → Bool
is_posix_safe_word [] = false
is_posix_safe_word (byte ∷ bytes) = list_all is_posix_safe (byte ∷ bytes)

-- a text as it is written between two `'`: for each `'` the quotes close, `\'` follows, and they
-- open again
abbrev pub posix_escaped : List ℕ → List ℕ
posix_escaped text = replace_byte single_quote_byte (codes "'\\''") text

-- a text as one word
unfoldable pub posix_quoted : List ℕ → List ℕ
posix_quoted text =
    if is_posix_safe_word text then text else codes "'" ++ posix_escaped text ++ codes "'"
