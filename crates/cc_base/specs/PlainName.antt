-- Plain names: ASCII letters and digits, with single `-` or `_` between them.
use Rattle.std.specs.Prelude.{ℕ, Bool, true, false, ◌||◌, List, [], ◌∷◌, ◌==◌, if◌then◌else◌, map}
use Rattle.std.specs.Char.{is_ascii_alphanumeric}
use Rattle.cc_base.specs.Bytes.{dash, underscore}

-- the kinds of bytes in a name: a letter or a digit, a `-` or a `_`, or neither
pub data NameByte : Type 0 where
  letter : NameByte
  joiner : NameByte
  foreign : NameByte

-- the kind of a byte
unfoldable pub name_byte : ℕ → NameByte
name_byte byte =
    if is_ascii_alphanumeric byte then letter else
    (if byte == dash || byte == underscore then joiner else foreign)

-- letters, with at most one joiner between two of them
unfoldable pub is_joined : List NameByte → Bool
is_joined (letter ∷ []) = true
is_joined (letter ∷ letter ∷ bytes) = is_joined (letter ∷ bytes)
is_joined (letter ∷ joiner ∷ bytes) = is_joined bytes
is_joined _ = false

-- whether a text is a plain name
unfoldable pub is_plain_name : List ℕ → Bool
is_plain_name name = is_joined (map name_byte name)
