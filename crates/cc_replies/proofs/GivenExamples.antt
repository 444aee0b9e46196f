-- The candidates in given lines.
use lib.Utf8.{encode}
use Rattle.std.specs.Str.{chars, is_utf8}
use Rattle.std.proofs.Common.{◌≡◌, ℕ, List, [], ◌∷◌, ◌++◌, Some, None, codes, refl}
use Rattle.cc_base.specs.Found.{after, cut_at, with_front, without_blanks}
use Rattle.cc_candidates.specs.Candidate.{new_candidate}
use Rattle.cc_candidates.specs.declared.candidate.CompletionCandidate.{CompletionCandidate}
use Rattle.cc_replies.specs.GivenLines.{candidates_of_lines, cut_entry, description_help, line_entry, listed_at, without_last_blanks}
use Rattle.cc_replies.specs.Reply.{without_return}

-- a candidate with a help text
abbrev helped : List ℕ → List ℕ → CompletionCandidate
helped value help = record (new_candidate value) { help = Some help }

abbrev bare : List ℕ → CompletionCandidate
bare value = new_candidate value

-- ---- the first tab ends the value

tab_rows :
    (candidates_of_lines None (codes "main\tthe branch\n") ≡ helped (codes "main") (codes "the branch") ∷ [])
    -- the last line needs no line feed
    × (candidates_of_lines None (codes "main") ≡ bare (codes "main") ∷ [])
    -- a carriage return before the line feed
    × (candidates_of_lines None (codes "a\tb\r\nc\r\n") ≡ helped (codes "a") (codes "b") ∷ bare (codes "c") ∷ [])
    -- a tab at the beginning
    × (candidates_of_lines None (codes "\tb\nc\n") ≡ bare (codes "c") ∷ [])
    × (candidates_of_lines None (codes "-dash\nda-sh\n") ≡ bare (codes "da-sh") ∷ [])
    -- an empty line
    × (candidates_of_lines None (codes "a\n\nb\n") ≡ bare (codes "a") ∷ bare (codes "b") ∷ [])
    × (candidates_of_lines None [] ≡ [])
    -- a space is a part of the value
    × (candidates_of_lines None (codes " a b \n") ≡ bare (codes " a b ") ∷ [])
unfolding after cut_at with_front without_blanks without_return cut_entry line_entry without_last_blanks description_help chars is_utf8 encode
tab_rows = (refl, refl, refl, refl, refl, refl, refl, refl)

-- ---- control characters, and bytes that are not UTF-8

control_rows :
    (candidates_of_lines None (codes "a" ++ 27 ∷ codes "[2J\nb\n") ≡ bare (codes "b") ∷ [])
    -- U+009B
    × (candidates_of_lines None (97 ∷ 194 ∷ 155 ∷ 10 ∷ codes "b\n") ≡ bare (codes "b") ∷ [])
    -- in a description they are left out
    × (candidates_of_lines None (codes "a\tx" ++ 27 ∷ codes "[2Jy\tz\n") ≡ helped (codes "a") (codes "x[2Jyz") ∷ [])
    × (candidates_of_lines None (codes "a\t" ++ 27 ∷ codes "\n") ≡ bare (codes "a") ∷ [])
    × (candidates_of_lines None (codes "a\t\n") ≡ bare (codes "a") ∷ [])
    -- a value, and a description, that is not UTF-8
    × (candidates_of_lines None (97 ∷ 255 ∷ 10 ∷ codes "b\n") ≡ bare (codes "b") ∷ [])
    × (candidates_of_lines None (codes "a\tb" ++ 255 ∷ 10 ∷ []) ≡ bare (codes "a") ∷ [])
    -- two letters that are not ASCII
    × (candidates_of_lines None (195 ∷ 188 ∷ 9 ∷ 195 ∷ 164 ∷ []) ≡ helped (195 ∷ 188 ∷ []) (195 ∷ 164 ∷ []) ∷ [])
unfolding after cut_at with_front without_blanks without_return cut_entry line_entry without_last_blanks description_help chars is_utf8 encode
control_rows = (refl, refl, refl, refl, refl, refl, refl, refl)

-- ---- repeated values

repeated_row :
    candidates_of_lines None (codes "a\tfirst\nb\na\tsecond\nb\tlater\nc\n")
    ≡ helped (codes "a") (codes "first") ∷ bare (codes "b") ∷ bare (codes "c") ∷ []
unfolding after cut_at with_front without_blanks without_return cut_entry line_entry without_last_blanks description_help chars is_utf8 encode
repeated_row = refl

-- ---- a separator

split_rows :
    (candidates_of_lines (Some (codes ":")) (codes "root:x:0\n") ≡ helped (codes "root") (codes "x:0") ∷ [])
    × (candidates_of_lines (Some (codes ":")) (codes " build : Builds it \nrun\n")
    ≡ helped (codes "build") (codes "Builds it") ∷ bare (codes "run") ∷ [])
    -- of a line with blanks at its start, a space takes the first column
    × (candidates_of_lines (Some (codes " ")) (codes "  \tone   two three \n") ≡ helped (codes "one") (codes "two three") ∷ [])
    × (candidates_of_lines (Some (codes " - ")) (codes "a-b - c - d\n") ≡ helped (codes "a-b") (codes "c - d") ∷ [])
    × (candidates_of_lines (Some (codes ":")) (codes ":x\n -y:z\n") ≡ [])
    × (candidates_of_lines (Some []) (codes "a\n") ≡ [])
unfolding after cut_at with_front without_blanks without_return cut_entry line_entry without_last_blanks description_help chars is_utf8 encode
split_rows = (refl, refl, refl, refl, refl, refl)

-- ---- the lists

list_rows :
    (listed_at (bare (codes "a") ∷ []) 0 ≡ bare (codes "a") ∷ [])
    × (listed_at (bare (codes "a") ∷ []) 1 ≡ [])
list_rows = (refl, refl)
