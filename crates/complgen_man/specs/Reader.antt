-- A reader of pages in roff: it goes byte by byte, and knows what man pages need.
use Rattle.std.specs.Prelude.{ℕ, List, [], ◌∷◌, ◌++◌, ◌==◌, ◌||◌, ◌&&◌, if◌then◌else◌}
use Rattle.cc_base.specs.Bytes.{backslash, backtick, dash, double_quote, line_feed, open_parenthesis, single_quote}
use Rattle.complgen_man.specs.Roff.{caret, tilde}

pub data Font : Type 0 where
  roman : Font
  bold : Font
  italic : Font

-- What a page consists of: the `.` or `'` at the beginning of a line, which makes the line a
-- request; a byte that is shown, in a font; a `"` that is not escaped; the end of a line; an escape
-- that this reader does not know.
pub data Sign : Type 0 where
  control : Sign
  glyph : Font → ℕ → Sign
  quote : Sign
  line_end : Sign
  unknown : ℕ → Sign

-- the place of the reader: at the start of a line, within it, after a `\`, after `\f`, after `\(`,
-- and after `\(` and one more byte
pub data Place : Type 0 where
  at_start : Place
  within : Place
  in_escape : Place
  in_font : Place
  in_name : Place
  in_second : ℕ → Place

-- the place, and the font that is set
pub record State : Type 0 where
  pub place : Place
  pub font : Font

abbrev pub at_first : Font → State
at_first font = record { place = at_start; font = font }

abbrev pub inside : Font → State
inside font = record { place = within; font = font }

-- the place after a byte that belongs to no escape
abbrev pub place_after : ℕ → Place
place_after byte =
    if byte == line_feed then at_start else if byte == backslash then in_escape else within

-- `f`, which sets a font, and its arguments `B` and `I`; `&`, which shows nothing
abbrev pub font_letter : ℕ
font_letter = 102

abbrev pub bold_letter : ℕ
bold_letter = 66

abbrev pub italic_letter : ℕ
italic_letter = 73

abbrev pub roman_letter : ℕ
roman_letter = 82

abbrev pub ampersand : ℕ
ampersand = 38

abbrev pub full_stop : ℕ
full_stop = 46

abbrev pub next_place : Place → ℕ → Place
next_place at_start byte = place_after byte
next_place within byte = place_after byte
next_place in_escape byte =
    if byte == font_letter then in_font else if byte == open_parenthesis then in_name else within
next_place in_font byte = within
next_place in_name byte = in_second byte
next_place (in_second first) byte = within

abbrev pub next_font : Place → Font → ℕ → Font
next_font in_font font byte =
    if byte == bold_letter then bold else if byte == italic_letter then italic else roman
next_font _ font byte = font

-- the state after one more byte
abbrev pub step : State → ℕ → State
step state byte =
    record { place = next_place state.place byte; font = next_font state.place state.font byte }

-- a byte that belongs to no escape
abbrev pub sign_within : Font → ℕ → List Sign
sign_within font byte =
    if byte == line_feed then line_end ∷ []
    else if byte == backslash then []
    else if byte == double_quote then quote ∷ []
    else glyph font byte ∷ []

-- the byte that `\(` and two letters show
abbrev pub named : Font → ℕ → ℕ → List Sign
named font first second =
    if first == 114 && second == 115 then glyph font backslash ∷ []
    else if first == 100 && second == 113 then glyph font double_quote ∷ []
    else if first == 97 && second == 113 then glyph font single_quote ∷ []
    else if first == 103 && second == 97 then glyph font backtick ∷ []
    else if first == 104 && second == 97 then glyph font caret ∷ []
    else if first == 116 && second == 105 then glyph font tilde ∷ []
    else unknown first ∷ []

-- what is read at one more byte
abbrev pub read_byte : Place → Font → ℕ → List Sign
read_byte at_start font byte =
    if byte == full_stop || byte == single_quote then control ∷ [] else sign_within font byte
read_byte within font byte = sign_within font byte
read_byte in_escape font byte =
    if byte == dash then glyph font dash ∷ []
    else if byte == font_letter || byte == open_parenthesis || byte == ampersand then []
    else unknown byte ∷ []
read_byte in_font font byte =
    if byte == bold_letter || byte == italic_letter || byte == roman_letter then []
    else unknown byte ∷ []
read_byte in_name font byte = []
read_byte (in_second first) font byte = named font first byte

-- what a text is read as, from a state on
abbrev pub read_from : State → List ℕ → List Sign
read_from state [] = []
read_from state (byte ∷ bytes) =
    read_byte state.place state.font byte ++ read_from (step state byte) bytes

-- the state after a text
abbrev pub state_after : State → List ℕ → State
state_after state [] = state
state_after state (byte ∷ bytes) = state_after (step state byte) bytes

-- what a page is read as
abbrev pub read_page : List ℕ → List Sign
read_page text = read_from (at_first roman) text
