-- The escapes by which a text becomes roff, the language of man pages.
use Rattle.std.specs.Prelude.{ℕ, List, Bool, ◌==◌, nat_lt, ◌||◌, if◌then◌else◌, codes}
use Rattle.cc_base.specs.Bytes.{backslash, backtick, dash, double_quote, line_feed, single_quote}
use Rattle.cc_quote.specs.Escapes.{escaped_by}

-- `^` and `~`
abbrev pub caret : ℕ
caret = 94

abbrev pub tilde : ℕ
tilde = 126

-- an ASCII control character
abbrev pub is_control : ℕ → Bool
is_control byte = nat_lt byte 32 || byte == 127

-- A byte that roff does not show as it is: `\` begins an escape, `"` ends an argument, the others
-- are shown as other characters than those of ASCII.
abbrev pub is_special : ℕ → Bool
is_special byte =
    byte == backslash || byte == dash || byte == double_quote || byte == single_quote
    || byte == backtick || byte == caret || byte == tilde

abbrev pub is_escaped : ℕ → Bool
is_escaped byte = is_special byte || is_control byte

-- the escape that shows a byte, and a space for a control character
abbrev pub word_replacement : ℕ → List ℕ
word_replacement byte =
    if byte == backslash then codes "\\(rs"
    else if byte == dash then codes "\\-"
    else if byte == double_quote then codes "\\(dq"
    else if byte == single_quote then codes "\\(aq"
    else if byte == backtick then codes "\\(ga"
    else if byte == caret then codes "\\(ha"
    else if byte == tilde then codes "\\(ti"
    else codes " "

-- the same in a text of several lines: the next line begins on a line of the page, with an escape
-- that shows nothing, so that the line is no request
abbrev pub prose_replacement : ℕ → List ℕ
prose_replacement byte =
    if byte == line_feed then codes "\n.br\n\\&" else word_replacement byte

-- a name, or another text that is shown on one line
unfoldable pub escaped_word : List ℕ → List ℕ
escaped_word text = escaped_by is_escaped word_replacement text

-- a help text, whose lines are kept
unfoldable pub escaped_prose : List ℕ → List ℕ
escaped_prose text = escaped_by is_escaped prose_replacement text
