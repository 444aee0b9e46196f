-- The replies of Cobra programs.
use lib.Utf8.{encode}
use Rattle.std.specs.Str.{chars, is_utf8}
use Rattle.std.proofs.Common.{◌≡◌, ℕ, true, false, List, [], ◌∷◌, Some, None, codes, refl}
use Rattle.cc_base.specs.Found.{after, cut_at, with_front, without_blanks}
use Rattle.cc_candidates.specs.Candidate.{new_candidate}
use Rattle.cc_candidates.specs.declared.candidate.CompletionCandidate.{CompletionCandidate}
use Rattle.cc_replies.specs.CobraReply.{CobraReply, PathKind, Any, Directories, Files, cobra_reply, directive_of}
use Rattle.cc_replies.specs.GivenLines.{cut_entry, description_help, line_entry, without_last_blanks}
use Rattle.cc_replies.specs.Reply.{without_return}

abbrev helped : List ℕ → List ℕ → CompletionCandidate
helped value help = record (new_candidate value) { help = Some help }

abbrev bare : List ℕ → CompletionCandidate
bare value = new_candidate value

-- values, or paths, and a space after each value
abbrev offers : List CompletionCandidate → CobraReply
offers values = record { values = record { candidates = values }; paths = None; no_space = false }

abbrev joins : List CompletionCandidate → CobraReply
joins values = record { values = record { candidates = values }; paths = None; no_space = true }

abbrev paths : PathKind → CobraReply
paths kind = record { values = record { candidates = [] }; paths = Some kind; no_space = false }

-- ---- values and a directive

value_rows :
    (cobra_reply (codes "main\tthe branch\nnext\n:4\n")
    ≡ offers (helped (codes "main") (codes "the branch") ∷ bare (codes "next") ∷ []))
    -- without a line feed at the end, as a shell gives it
    × (cobra_reply (codes "main\n:0") ≡ offers (bare (codes "main") ∷ []))
    -- a line behind it that does not count
    × (cobra_reply (codes "main\n:4\n\n") ≡ offers (bare (codes "main") ∷ []))
    -- carriage returns before the line feeds
    × (cobra_reply (codes "main\r\n:4\r\n") ≡ offers (bare (codes "main") ∷ []))
    -- no space
    × (cobra_reply (codes "docker://\n:6\n") ≡ joins (bare (codes "docker://") ∷ []))
    -- the order is kept
    × (cobra_reply (codes "b\na\n:36\n") ≡ offers (bare (codes "b") ∷ bare (codes "a") ∷ []))
    -- a value with a colon, and one as a directive that is not the last line
    × (cobra_reply (codes ":4\nalpine:3\n:4\n") ≡ offers (bare (codes ":4") ∷ bare (codes "alpine:3") ∷ []))
    × (cobra_reply (codes "a\nb\na\tagain\n-x\n:4\n") ≡ offers (bare (codes "a") ∷ bare (codes "b") ∷ []))
unfolding after cut_at with_front without_blanks without_return cut_entry line_entry without_last_blanks description_help chars is_utf8 encode directive_of
value_rows = (refl, refl, refl, refl, refl, refl, refl, refl)

help_rows :
    (cobra_reply (codes "_activeHelp_ a name\nmain\n:4\n") ≡ offers (bare (codes "main") ∷ []))
    × (cobra_reply (codes "_activeHelp_ a name\n:4\n") ≡ offers [])
    -- without the space after it
    × (cobra_reply (codes "_activeHelp_\n:4\n") ≡ offers (bare (codes "_activeHelp_") ∷ []))
unfolding after cut_at with_front without_blanks without_return cut_entry line_entry without_last_blanks description_help chars is_utf8 encode directive_of
help_rows = (refl, refl, refl)

-- ---- paths

path_rows :
    (cobra_reply (codes ":0\n") ≡ paths Any)
    × (cobra_reply (codes ":4\n") ≡ offers [])
    × (cobra_reply (codes "_activeHelp_ a file\n:0\n") ≡ paths Any)
    × (cobra_reply (codes "yaml\njson\n:8\n") ≡ paths Files)
    × (cobra_reply (codes "charts\n:16\n") ≡ paths Directories)
    × (cobra_reply (codes ":20\n") ≡ paths Directories)
unfolding after cut_at with_front without_blanks without_return cut_entry line_entry without_last_blanks description_help chars is_utf8 encode directive_of
path_rows = (refl, refl, refl, refl, refl, refl)

-- ---- errors

error_rows :
    (cobra_reply (codes "main\n:1\n") ≡ offers [])
    × (cobra_reply (codes ":3\n") ≡ offers [])
    × (cobra_reply (codes ":25\n") ≡ offers [])
unfolding after cut_at with_front without_blanks without_return cut_entry line_entry without_last_blanks description_help chars is_utf8 encode directive_of
error_rows = (refl, refl, refl)

-- ---- no directive

other_rows :
    (cobra_reply (codes "main\tthe branch\n") ≡ offers (helped (codes "main") (codes "the branch") ∷ []))
    × (cobra_reply [] ≡ offers [])
    -- the last line has a description, has a letter, a sign, no digit, or six digits
    × (cobra_reply (codes ":4\ta\n") ≡ offers (helped (codes ":4") (codes "a") ∷ []))
    × (cobra_reply (codes ":4x\n") ≡ offers (bare (codes ":4x") ∷ []))
    × (cobra_reply (codes ":+4\n") ≡ offers (bare (codes ":+4") ∷ []))
    × (cobra_reply (codes ":\n") ≡ offers (bare (codes ":") ∷ []))
    × (cobra_reply (codes ":000004\n") ≡ offers (bare (codes ":000004") ∷ []))
    -- the directive is not a line of its own
    × (cobra_reply (codes "a:4\n") ≡ offers (bare (codes "a:4") ∷ []))
    -- help for the user is a value like others
    × (cobra_reply (codes "_activeHelp_ a\n") ≡ offers (bare (codes "_activeHelp_ a") ∷ []))
unfolding after cut_at with_front without_blanks without_return cut_entry line_entry without_last_blanks description_help chars is_utf8 encode directive_of
other_rows = (refl, refl, refl, refl, refl, refl, refl, refl, refl)
