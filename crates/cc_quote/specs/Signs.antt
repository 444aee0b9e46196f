-- The meaning of each byte to the readers of words and of tokens.
use Rattle.std.specs.Prelude.{ℕ, not, ◌==◌, if◌then◌else◌, List, [], ◌∷◌, IsTrue}
use Rattle.std.specs.List.{AllByRecursion}
use Rattle.cc_base.specs.Bytes.{single_quote, is_blank}

-- whitespace, which is a space, a tab or a line feed; a quote; or anything else; each with its
-- bytes
pub data Sign : Type 0 where
  blank : List ℕ → Sign
  quote : List ℕ → Sign
  other : List ℕ → Sign

-- the bytes of a sign
abbrev pub bytes : Sign → List ℕ
bytes (blank run) = run
bytes (quote run) = run
bytes (other run) = run

-- the sign of a byte, if `'` is the only quote
unfoldable pub sign : ℕ → Sign
sign byte =
    if byte == single_quote then quote (byte ∷ [])
    else (if is_blank byte then blank (byte ∷ []) else other (byte ∷ []))

-- no byte is a `'`
abbrev pub HasNoQuote : List ℕ → Type 0
HasNoQuote text = AllByRecursion (λ byte. IsTrue (not (byte == single_quote))) text
