-- Lists of bash, and how their lines are read.
use Rattle.std.proofs.Common.{◌≡◌, ℕ, false, List, [], ◌∷◌, Some, None, codes, refl}
use Rattle.std.specs.Fmt.{char_count, take_chars}
use Rattle.cc_base.specs.Found.{after, cut_at, with_front}
use Rattle.cc_candidates.specs.Candidate.{new_candidate}
use Rattle.cc_candidates.specs.declared.candidate.CompletionCandidate.{CompletionCandidate}
use Rattle.cc_replies.specs.BashList.{bash_list_reply, before_closing, closed_word, description_of, description_read, list_line, list_line_read, word_cut}
use Rattle.cc_replies.specs.BashWords.{Bare, Cursor, Double, OpenQuote, Single, bare_read, bare_text, bare_word_read, bash_line_word, bash_text, bash_value_read, bash_word_line, double_read, single_read, start_text, word_read}
use Rattle.cc_replies.specs.Environment.{width_in}
use Rattle.cc_replies.specs.Reply.{first_line, without_return}
use Rattle.cc_replies.specs.SafeValues.{safe_help}

-- a candidate with a help text
abbrev helped : List ℕ → List ℕ → CompletionCandidate
helped value help = record (new_candidate value) { help = Some help }

-- the line of a shell in UTF-8
abbrev cursor : List ℕ → OpenQuote → ℕ → Cursor
cursor kept quote width = record { ascii_only = false; kept = kept; quote = quote; width = width }

abbrev some : List CompletionCandidate
some = helped (codes "auto") (codes "Where the output is a terminal") ∷ helped (codes "a b") (codes "A (b)\nMore") ∷ new_candidate (codes "no") ∷ []

reply_row :
    (bash_list_reply (cursor [] Bare 80) some ≡ codes "auto  (Where the output is a terminal)\na\\ b  (A (b))\nno\n")
    × (bash_list_reply (cursor [] Bare 30) some ≡ codes "auto  (Where the output is ..)\na\\ b  (A (b))\nno\n")
    × (bash_list_reply (cursor [] Bare 29) some ≡ codes "auto\na\\ b\nno\n")
    × (bash_list_reply (cursor [] Bare 0) some ≡ codes "auto\na\\ b\nno\n")
    × (bash_list_reply (cursor [] Single 80) some ≡ codes "auto'  (Where the output is a terminal)\na b'   (A (b))\nno\n")
    × (bash_list_reply (cursor [] Bare 80) (helped (codes "auto") (codes "x") ∷ []) ≡ codes "auto\n")
    × (bash_list_reply (cursor [] Bare 80) (helped (codes "auto") (codes "x") ∷ helped (codes "auto") (codes "y") ∷ []) ≡ codes "auto\nauto\n")
    × (bash_list_reply (cursor (codes "k=") Bare 80) (helped (codes "k=") (codes "x") ∷ helped (codes "k=v") (codes "y") ∷ []) ≡ codes "\nv\n")
unfolding after cut_at with_front start_text bare_text bash_text bash_word_line closed_word description_of safe_help first_line without_return list_line char_count take_chars
reply_row = (refl, refl, refl, refl, refl, refl, refl, refl)

read_row :
    (list_line_read (cursor [] Bare 80) (codes "a\\ b  (A (b))") ≡ Some (record { value = codes "a b"; help = Some (codes "A (b)") }))
    × (list_line_read (cursor [] Bare 80) (codes "a\\ \\ \\(b") ≡ Some (record { value = codes "a  (b"; help = None }))
    × (list_line_read (cursor [] Single 80) (codes "a  (b)'    (it's)") ≡ Some (record { value = codes "a  (b)"; help = Some (codes "it's") }))
    × (list_line_read (cursor [] Single 80) (codes "a  (b)") ≡ Some (record { value = codes "a  (b)"; help = None }))
    × (list_line_read (cursor [] Double 80) (codes "a\\\"  (b\"  (c)") ≡ Some (record { value = codes "a\"  (b"; help = Some (codes "c") }))
    × (list_line_read (cursor [] Bare 80) (codes "a b") ≡ None)
unfolding list_line_read word_cut with_front description_read before_closing bash_value_read bash_line_word bare_word_read bare_read double_read single_read word_read after
read_row = (refl, refl, refl, refl, refl, refl)

width_row :
    (width_in (Some (codes "80")) ≡ 80) × (width_in (Some (codes "00080")) ≡ 80) × (width_in (Some (codes "000080")) ≡ 0)
    × (width_in (Some (codes "+80")) ≡ 0) × (width_in (Some []) ≡ 0) × (width_in None ≡ 0)
width_row = (refl, refl, refl, refl, refl, refl)
