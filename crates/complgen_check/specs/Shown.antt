-- Texts of a file as they are shown: on one line, and cut if they are long.
use Rattle.std.specs.Prelude.{ℕ, List, [], ◌++◌, codes, encode_utf8_all, if◌then◌else◌, length, map, nat_lt, take}
use Rattle.std.specs.Str.{chars}
use Rattle.cc_base.specs.Shown.{visible}

-- the first 60 characters of a text, each control character as `?`, and `..` if it has more
abbrev pub shown_text : List ℕ → List ℕ
shown_text text = encode_utf8_all (map visible (take 60 (chars text)))
    ++ (if nat_lt 60 (length (chars text)) then codes ".." else [])
