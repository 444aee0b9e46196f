-- Bytes by name.
use Rattle.std.specs.Prelude.{ℕ, Bool, ◌||◌, ◌==◌, List, [], ◌∷◌}

abbrev pub tab : ℕ
tab = 9

abbrev pub line_feed : ℕ
line_feed = 10

abbrev pub space : ℕ
space = 32

-- `"`
abbrev pub double_quote : ℕ
double_quote = 34

-- `#`
abbrev pub hash : ℕ
hash = 35

-- `$`
abbrev pub dollar : ℕ
dollar = 36

-- `'`
abbrev pub single_quote : ℕ
single_quote = 39

-- `(`
abbrev pub open_parenthesis : ℕ
open_parenthesis = 40

-- `)`
abbrev pub close_parenthesis : ℕ
close_parenthesis = 41

-- `*`
abbrev pub star : ℕ
star = 42

-- `+`
abbrev pub plus : ℕ
plus = 43

-- `,`
abbrev pub comma : ℕ
comma = 44

-- `-`
abbrev pub dash : ℕ
dash = 45

-- `:`
abbrev pub colon : ℕ
colon = 58

-- `;`
abbrev pub semicolon : ℕ
semicolon = 59

-- `=`
abbrev pub equals : ℕ
equals = 61

-- `[`
abbrev pub open_bracket : ℕ
open_bracket = 91

-- `\`
abbrev pub backslash : ℕ
backslash = 92

-- `]`
abbrev pub close_bracket : ℕ
close_bracket = 93

-- `_`
abbrev pub underscore : ℕ
underscore = 95

-- ``` ` ```
abbrev pub backtick : ℕ
backtick = 96

-- the three bytes of `’`, the right single quotation mark U+2019
abbrev pub right_quote_first : ℕ
right_quote_first = 226

abbrev pub right_quote_second : ℕ
right_quote_second = 128

abbrev pub right_quote_third : ℕ
right_quote_third = 153

-- all three bytes
abbrev pub right_quote : List ℕ
right_quote = right_quote_first ∷ right_quote_second ∷ right_quote_third ∷ []

-- a space, a tab or a line feed
abbrev pub is_blank : ℕ → Bool
is_blank byte = byte == space || byte == tab || byte == line_feed
