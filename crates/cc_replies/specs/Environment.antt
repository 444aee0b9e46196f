-- Environment variables, the index of a word, and the separator of a reply.
use Rattle.std.specs.Prelude.{◌≡◌, ◌<◌, ◌^◌, ℕ, List, Option, Some, None}
use Rattle.std.specs.Prelude.{Bool, false, not, ◌&&◌, ◌==◌, codes, find, if◌then◌else◌, is_some, length, option_map, unwrap_or}
use Rattle.std.specs.Char.{is_ascii_digit}
use Rattle.std.specs.Int.{is_in_range}
use Rattle.std.specs.List.{list_all}
use Rattle.std.specs.String.{string_bytes}
use Rattle.std.specs.Str.{bytes_eq}
use Rattle.std.specs.Str.Parse.{IsNumeral, digits_value, without_leading_plus}
use Rattle.cc_replies.specs.BashWords.{open_quote}
use Rattle.cc_replies.specs.declared.cursor.Cursor.{Cursor}
use Rattle.cc_replies.specs.declared.cursor.OpenQuote.{OpenQuote}
pub use Rattle.cc_replies.specs.declared.environment.EnvValues.{EnvValues}

-- the value of the first variable with a name
abbrev pub value_of : List ℕ → EnvValues → Option (List ℕ)
value_of name env =
    option_map (λ v. string_bytes v.1) (find (λ v. bytes_eq (string_bytes v.0) name) env.variables)

-- ---- the index

abbrev pub index_name : List ℕ
index_name = codes "_CLAP_COMPLETE_INDEX"

-- digits after at most one `+`, whose number fits in a `usize`
abbrev pub WritesIndex : List ℕ → Type 0
WritesIndex text = IsNumeral 10 (without_leading_plus text)
    × (digits_value 10 (without_leading_plus text) < 2 ^ 64)

-- the number that a text spells, or 0 if it spells none
pub record IsNumberOf (text : List ℕ) (index : ℕ) : Type 0 where
  pub number : WritesIndex text → index ≡ digits_value 10 (without_leading_plus text)
  pub other : (WritesIndex text → ⊥) → index ≡ 0

-- the same for a value that may be missing
abbrev pub IsIndex : Option (List ℕ) → ℕ → Type 0
IsIndex None index = index ≡ 0
IsIndex (Some text) index = IsNumberOf text index

-- ---- the separator

-- the text between values
abbrev pub separator_of : EnvValues → List ℕ
separator_of env = unwrap_or (value_of (codes "_CLAP_IFS") env) (codes "\n")

-- ---- the variables that the safe registrations set

-- the request comes from one of them
abbrev pub asks_safely : EnvValues → Bool
asks_safely env = is_some (value_of (codes "_COMPLGEN_VALUES") env)

-- the shell's locale is safe for nothing but ASCII, as bash and zsh say by a text that is not empty
abbrev pub has_byte : Option (List ℕ) → Bool
has_byte None = false
has_byte (Some text) = not (length text == 0)

abbrev pub ascii_only_of : EnvValues → Bool
ascii_only_of env = has_byte (value_of (codes "_COMPLGEN_ASCII") env)

-- the part of the word that bash keeps
abbrev pub kept_of : EnvValues → List ℕ
kept_of env = unwrap_or (value_of (codes "_COMPLGEN_KEPT") env) (codes "")

-- the quote that is open in bash's line
abbrev pub quote_of : EnvValues → OpenQuote
quote_of env = open_quote (unwrap_or (value_of (codes "_COMPLGEN_QUOTE") env) (codes ""))

-- ---- the width of the terminal in which bash lists candidates

-- one to five digits, and nothing else
abbrev pub is_short_number : List ℕ → Bool
is_short_number text = is_in_range 1 5 (length text) && list_all is_ascii_digit text

-- the number that such a text spells
abbrev pub short_number : List ℕ → Option ℕ
short_number text = if is_short_number text then Some (digits_value 10 text) else None

-- that number, or 0
abbrev pub width_in : Option (List ℕ) → ℕ
width_in None = 0
width_in (Some text) = unwrap_or (short_number text) 0

abbrev pub width_of : EnvValues → ℕ
width_of env = width_in (value_of (codes "_COMPLGEN_WIDTH") env)

-- the shell's line, as these variables describe it
abbrev pub cursor_of : EnvValues → Cursor
cursor_of env = record {
  ascii_only = ascii_only_of env;
  kept = kept_of env;
  quote = quote_of env;
  width = width_of env;
}
