-- Texts from outside, as messages show them on one line.
use Rattle.std.specs.Prelude.{◌≡◌, ℕ, List, false, encode_utf8_all, if◌then◌else◌, map}
use Rattle.std.specs.Char.{is_control}
use Rattle.std.specs.List.{AllByRecursion}
use Rattle.std.specs.Str.{chars}

-- the character, or `?` if it is a control character
abbrev pub visible : ℕ → ℕ
visible character = if is_control character then 63 else character

-- a text with `?` instead of each control character
abbrev pub on_one_line : List ℕ → List ℕ
on_one_line text = encode_utf8_all (map visible (chars text))

-- no character of a text is a control character
abbrev pub HoldsNoControl : List ℕ → Type 0
HoldsNoControl text = AllByRecursion (λ character. is_control character ≡ false) (chars text)
