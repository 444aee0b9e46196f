-- The meaning of each byte to a POSIX shell.
use Rattle.std.specs.Prelude.{ℕ, ◌==◌, ◌||◌, if◌then◌else◌}
use Rattle.cc_base.specs.Bytes.{tab as tab_byte, line_feed as line_feed_byte, space as space_byte, double_quote as double_quote_byte, dollar as dollar_byte, single_quote as single_quote_byte, backslash as backslash_byte, backtick as backtick_byte}

-- what a byte means: a space or a tab, a line feed, a quote of either kind, a backslash, one of the
-- two others that a backslash escapes within double quotes, or any other
pub data Sign : Type 0 where
  blank : ℕ → Sign
  line_feed : Sign
  single_quote : Sign
  double_quote : Sign
  backslash : Sign
  special : ℕ → Sign
  other : ℕ → Sign

-- the sign of a byte
unfoldable pub sign : ℕ → Sign
sign byte =
    if byte == space_byte || byte == tab_byte then blank byte
    else (if byte == line_feed_byte then line_feed
    else (if byte == single_quote_byte then single_quote
    else (if byte == double_quote_byte then double_quote
    else (if byte == backslash_byte then backslash
    else (if byte == dollar_byte || byte == backtick_byte then special byte else other byte)))))

-- the byte of a sign
unfoldable pub byte_of : Sign → ℕ
byte_of (blank byte) = byte
byte_of line_feed = line_feed_byte
byte_of single_quote = single_quote_byte
byte_of double_quote = double_quote_byte
byte_of backslash = backslash_byte
byte_of (special byte) = byte
byte_of (other byte) = byte
