-- The replacement of each byte in fish's escapes of texts that are read twice.
use Rattle.std.specs.Prelude.{ℕ, Bool, List, ◌==◌, ◌||◌}
use Rattle.cc_base.specs.Bytes.{line_feed}
use Rattle.cc_quote.specs.Escapes.{marked_byte}
use Rattle.cc_quote.specs.QuotedWord.{space_for_line_feed}
use Rattle.cc_quote.specs.FishQuote.{is_single_marked, is_double_marked, double_escaped}

-- a byte between two `'` that are between two `"`
abbrev pub eval_byte : ℕ → List ℕ
eval_byte byte = double_escaped (marked_byte is_single_marked byte)

-- a byte of a help text there
abbrev pub help_byte : ℕ → List ℕ
help_byte byte = eval_byte (space_for_line_feed byte)

-- whether a byte is escaped there: `\`, `'`, `"` or `$`
abbrev pub is_eval_byte : ℕ → Bool
is_eval_byte byte = is_single_marked byte || is_double_marked byte

-- whether a byte of a help text is escaped there: one of these, or a line feed
abbrev pub is_help_byte : ℕ → Bool
is_help_byte byte = is_eval_byte byte || byte == line_feed
