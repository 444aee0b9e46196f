-- Texts between two `"` in bash.
use Rattle.std.specs.Prelude.{ℕ, Bool, List, [], Option, None, ◌==◌, ◌||◌}
use Rattle.cc_base.specs.Bytes as ascii
use Rattle.cc_quote.specs.Escapes.{marked}
use Rattle.cc_quote.specs.PosixQuote.{posix_next, posix_added, is_bare}
use Rattle.cc_quote.specs.WordReader.{word_from, after_double_quote}
use Rattle.cc_quote.specs.declared.posix.QuoteState.{QuoteState}
use Rattle.cc_quote.specs.declared.posix.QuoteState.TheVariants.{InDouble, InDoubleEscaped}

-- ---- how a text is read

-- the state after a character between two `"`; `None` after the closing `"`
abbrev pub double_next : QuoteState → ℕ → Option QuoteState
double_next InDouble character = posix_next InDouble character
double_next InDoubleEscaped character = posix_next InDoubleEscaped character
double_next _ character = None

-- what a text between two `"` spells from a state on, up to the closing `"`, and the rest
unfoldable pub bash_double_from : QuoteState → List ℕ → List ℕ → Option (List ℕ × List ℕ)
bash_double_from state word text = word_from double_next posix_added is_bare state word text

-- what a text that begins with `"` spells up to the closing `"`, and the rest
unfoldable pub bash_double_of : List ℕ → Option (List ℕ × List ℕ)
bash_double_of text = after_double_quote (bash_double_from InDouble []) text

-- ---- how a text is escaped

-- whether a byte follows a backslash: `\`, `"`, `$` or a backtick
abbrev pub is_double_marked : ℕ → Bool
is_double_marked byte =
    byte == ascii.backslash || byte == ascii.double_quote || byte == ascii.dollar
    || byte == ascii.backtick

-- a text as it is written between two `"`
abbrev pub bash_doubled : List ℕ → List ℕ
bash_doubled text = marked is_double_marked text
