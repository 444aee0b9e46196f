-- Plain paths: ASCII letters, digits and `/ . _ -`.
use Rattle.std.specs.Prelude.{ℕ, Bool, false, List, [], ◌∷◌, codes, ◌==◌, ◌||◌}
use Rattle.std.specs.Char.{is_ascii_alphanumeric}
use Rattle.std.specs.List.{list_all, list_any}

-- whether a byte is an ASCII letter, a digit or one of `/ . _ -`
unfoldable pub is_path_byte : ℕ → Bool
is_path_byte byte = is_ascii_alphanumeric byte || list_any (λ safe. byte == safe) (codes "/._-")

-- whether a path is plain: not empty, with only such bytes
unfoldable pub is_plain_path : List ℕ → Bool
is_plain_path [] = false
is_plain_path (byte ∷ path) = list_all is_path_byte (byte ∷ path)
