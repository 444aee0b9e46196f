-- Texts that are numbers.
use Rattle.std.specs.Prelude.{ℕ, List, [], ◌∷◌, Option, Some, None, ◌==◌, ◌&&◌, ◌||◌, nat_le, Bool, false, not}
use Rattle.std.specs.Char.{is_ascii_digit}
use Rattle.std.specs.List.{after_first, count_by, last_or, list_all, list_any}

-- the byte `.`
abbrev point : ℕ
point = 46

-- the byte `e`
abbrev pub letter_e : ℕ
letter_e = 101

abbrev pub is_point : ℕ → Bool
is_point b = b == point

abbrev pub is_e : ℕ → Bool
is_e b = b == letter_e

-- a byte that may occur in a number
abbrev pub is_of_numbers : ℕ → Bool
is_of_numbers b = is_ascii_digit b || is_point b || is_e b

-- the first byte is a digit
abbrev pub begins_with_digit : List ℕ → Bool
begins_with_digit [] = false
begins_with_digit (b ∷ _) = is_ascii_digit b

-- there is a byte, and it is `e`
abbrev pub is_some_e : Option ℕ → Bool
is_some_e None = false
is_some_e (Some b) = is_e b

-- A number: digits, at most one `.` and at most one `e`. It begins with a digit, has no `.` after
-- the `e`, and does not end in `e`.
unfoldable pub is_number : List ℕ → Bool
is_number bytes =
    begins_with_digit bytes
    && list_all is_of_numbers bytes
    && nat_le (count_by is_point bytes) 1
    && nat_le (count_by is_e bytes) 1
    && not (list_any is_point (after_first is_e bytes))
    && not (is_some_e (last_or None bytes))
