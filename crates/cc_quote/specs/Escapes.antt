-- Escapes of texts, byte by byte or in runs.
use Rattle.std.specs.Prelude.{◌≡◌, ℕ, ◌<◌, Bool, List, [], ◌∷◌, ◌++◌, Option, Some, None, flat_map, length, if◌then◌else◌}
use Rattle.cc_base.specs.Bytes.{backslash}
use Rattle.memchr.specs.Find.{is_byte}

-- the replacement of a byte; `None` if it is not escaped
abbrev pub replacement_by : (ℕ → Bool) → (ℕ → List ℕ) → ℕ → Option (List ℕ)
replacement_by escapes replacement byte = if escapes byte then Some (replacement byte) else None

-- the text that is written for a byte
abbrev pub escaped_byte : (ℕ → Bool) → (ℕ → List ℕ) → ℕ → List ℕ
escaped_byte escapes replacement byte = if escapes byte then replacement byte else byte ∷ []

-- a text with a replacement for each byte that is escaped
abbrev pub escaped_by : (ℕ → Bool) → (ℕ → List ℕ) → List ℕ → List ℕ
escaped_by escapes replacement text = flat_map (escaped_byte escapes replacement) text

-- a text with another text instead of each occurrence of one byte
abbrev pub replace_byte : ℕ → List ℕ → List ℕ → List ℕ
replace_byte byte by text = escaped_by (is_byte byte) (λ _. by) text

-- a byte after a backslash
abbrev pub backslashed : ℕ → List ℕ
backslashed byte = backslash ∷ byte ∷ []

-- a byte, with a backslash before it if a test holds
abbrev pub marked_byte : (ℕ → Bool) → ℕ → List ℕ
marked_byte is_marked byte = escaped_byte is_marked backslashed byte

-- a text with a backslash before each byte for which a test holds
abbrev pub marked : (ℕ → Bool) → List ℕ → List ℕ
marked is_marked text = escaped_by is_marked backslashed text

-- The first escape of a text: the run before it is kept, the replacement is written, and the rest
-- is escaped after that.
pub record IsFirstEscape (escaped : List ℕ → List ℕ) (text run replacement rest : List ℕ)
    : Type 0 where
  pub whole : escaped text ≡ run ++ replacement ++ escaped rest
  pub shorter : length rest < length text
