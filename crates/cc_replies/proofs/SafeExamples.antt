-- The safe replies for hostile values, and how the shells read their lines.
use Rattle.std.proofs.Common.{◌≡◌, ℕ, Bool, true, false, List, [], ◌∷◌, ◌++◌, Some, None, codes, refl}
use Rattle.cc_base.specs.Found.{after, cut_at, with_front}
use Rattle.cc_candidates.specs.Candidate.{new_candidate}
use Rattle.cc_candidates.specs.declared.candidate.CompletionCandidate.{CompletionCandidate}
use Rattle.cc_quote.specs.PowershellQuote.{powershell_signs, sign_before}
use Rattle.cc_quote.specs.Signs.{sign}
use Rattle.cc_quote.specs.ZshQuote.{marks, marks_from}
use Rattle.cc_replies.specs.BashWords.{Bare, Cursor, OpenQuote, Single, Double, bare_read, bare_text, bare_word_read, bash_line_word, bash_text, bash_value_read, bash_word_line, bash_words_reply, double_read, is_bash_insertable, open_quote, single_read, start_text, word_read}
use Rattle.cc_replies.specs.PowershellEntries.{entry_of, entry_shown, tooltip_of}
use Rattle.cc_replies.specs.PowershellWords.{is_powershell_insertable, powershell_line, powershell_line_read, powershell_typed, powershell_word, powershell_words_reply, quoted_whole, typed_entry, word_entry}
use Rattle.cc_replies.specs.Reply.{colon_help, first_line, line_shown, shown_from, shown_line, tab_help, without_return, zsh_item}
use Rattle.cc_replies.specs.SafeReplies.{fish_item_read, is_fish_insertable, is_zsh_insertable, safe_lines_reply, safe_values_reply, safe_zsh_reply, zsh_item_read}
use Rattle.cc_replies.specs.SafeValues.{is_safe_text, safe_help, safe_shown}

-- a candidate with a help text
abbrev helped : List ℕ → List ℕ → CompletionCandidate
helped value help = record (new_candidate value) { help = Some help }

-- the line of a shell
abbrev cursor : Bool → List ℕ → OpenQuote → Cursor
cursor ascii_only kept quote = record { ascii_only = ascii_only; kept = kept; quote = quote; width = 0 }

-- ---- the values that are left out

safe_row :
    (is_safe_text (codes "x$(touch hit)") ≡ true)
    × (is_safe_text (codes "ümlaut") ≡ true)
    × (is_safe_text [] ≡ false)
    × (is_safe_text (codes "a\tb") ≡ false)
    × (is_safe_text (codes "a\nb") ≡ false)
    × (is_safe_text (97 ∷ 127 ∷ []) ≡ false)
    -- U+009B, which begins a command to a terminal, and U+00A0, which does not
    × (is_safe_text (97 ∷ 194 ∷ 155 ∷ []) ≡ false)
    × (is_safe_text (97 ∷ 194 ∷ 160 ∷ []) ≡ true)
    × (is_safe_text (97 ∷ 194 ∷ []) ≡ true)
safe_row = (refl, refl, refl, refl, refl, refl, refl, refl, refl)

quote_row :
    (open_quote (codes "'") ≡ Single)
    × (open_quote (codes "\"") ≡ Double)
    × (open_quote [] ≡ Bare)
    × (open_quote (codes "''") ≡ Bare)
quote_row = (refl, refl, refl, refl)

insertable_row :
    (is_bash_insertable (cursor false [] Bare) (codes "it's") ≡ true)
    × (is_bash_insertable (cursor false [] Double) (codes "it's") ≡ true)
    × (is_bash_insertable (cursor false [] Single) (codes "it's") ≡ false)
    × (is_bash_insertable (cursor false [] Bare) (codes "!bang") ≡ true)
    × (is_bash_insertable (cursor false [] Single) (codes "!bang") ≡ true)
    × (is_bash_insertable (cursor false [] Double) (codes "!bang") ≡ false)
    × (is_bash_insertable (cursor false (codes "img:") Bare) (codes "img:1.2") ≡ true)
    × (is_bash_insertable (cursor false (codes "img:") Bare) (codes "im:1.2") ≡ false)
    -- the kept part is in the line already, so the open quote has to hold only the rest
    × (is_bash_insertable (cursor false (codes "it's:") Single) (codes "it's:1") ≡ true)
    × (is_fish_insertable (codes "~/x") ≡ true)
    × (is_fish_insertable (codes "~root") ≡ false)
    × (is_fish_insertable (codes "~") ≡ false)
    × (is_fish_insertable (codes "a~") ≡ true)
    -- U+2018, and U+2019
    × (is_powershell_insertable false (97 ∷ 226 ∷ 128 ∷ 152 ∷ []) ≡ false)
    × (is_powershell_insertable false (97 ∷ 226 ∷ 128 ∷ 153 ∷ []) ≡ true)
unfolding after
insertable_row = (refl, refl, refl, refl, refl, refl, refl, refl, refl, refl, refl, refl, refl, refl, refl)

-- ---- bash

abbrev hostile : List CompletionCandidate
hostile =
    new_candidate (codes "x$(touch hit)")
    ∷ new_candidate (codes "a b")
    ∷ new_candidate (codes "it's")
    ∷ new_candidate (codes "!bang")
    ∷ new_candidate (codes "~/x y")
    ∷ new_candidate (codes "~root")
    ∷ new_candidate (codes "-dash")
    ∷ new_candidate (codes "a\nb")
    ∷ []

bash_replies :
    (bash_words_reply (cursor false [] Bare) hostile
    ≡ codes "x\\$\\(touch\\ hit\\)\na\\ b\nit\\'s\n\\!bang\n~/x\\ y\n\\~root\n-dash\n")
    × (bash_words_reply (cursor false [] Single) hostile
    ≡ codes "a b\n!bang\n~/x y\n~root\n-dash\n")
    × (bash_words_reply (cursor false [] Double) hostile
    ≡ codes "x\\$(touch hit)\na b\nit's\n~/x y\n~root\n-dash\n")
    -- the part that bash keeps is not written again
    × (bash_words_reply (cursor false (codes "img:") Bare)
    (new_candidate (codes "img:1.2") ∷ new_candidate (codes "img:~/x") ∷ new_candidate (codes "other") ∷ [])
    ≡ codes "1.2\n\\~/x\n")
    × (bash_words_reply (cursor false [] Bare) (new_candidate (codes "ümlaut") ∷ []) ≡ codes "ümlaut\n")
unfolding after bash_word_line bash_text bare_text start_text
bash_replies = (refl, refl, refl, refl, refl)

bash_reads :
    (bash_line_word [] Bare (codes "x\\$\\(touch\\ hit\\)") ≡ Some (codes "x$(touch hit)"))
    × (bash_line_word [] Bare (codes "x$(touch hit)") ≡ None)
    × (bash_line_word [] Bare (codes "a b") ≡ None)
    × (bash_line_word [] Bare (codes "it's") ≡ None)
    × (bash_line_word [] Bare (codes "a*") ≡ None)
    × (bash_line_word [] Bare (codes "a\\") ≡ None)
    × (bash_line_word [] Bare (codes "a\\\nb") ≡ None)
    × (bash_line_word [] Bare (codes "~/x") ≡ Some (codes "~/x"))
    × (bash_line_word [] Bare (codes "~root") ≡ None)
    × (bash_line_word [] Bare (codes "\\~root") ≡ Some (codes "~root"))
    × (bash_line_word (codes "img:") Bare (codes "~/x") ≡ None)
    × (bash_line_word (codes "img:") Bare (codes "1.2") ≡ Some (codes "1.2"))
    × (bash_line_word [] Bare (codes "ümlaut") ≡ Some (codes "ümlaut"))
    × (bash_line_word [] Single (codes "x(touch hit)\\") ≡ Some (codes "x(touch hit)\\"))
    -- a here-document replaces these, also between `'`
    × (bash_line_word [] Single (codes "x$(touch hit)") ≡ None)
    × (bash_line_word [] Single (codes "`hit`") ≡ None)
    × (bash_line_word [] Single (codes "it's") ≡ None)
    × (bash_line_word [] Double (codes "x\\$(touch hit)") ≡ Some (codes "x$(touch hit)"))
    × (bash_line_word [] Double (codes "x$(touch hit)") ≡ None)
    × (bash_line_word [] Double (codes "!bang") ≡ None)
    × (bash_line_word [] Double (codes "\\!bang") ≡ None)
    × (bash_line_word [] Double (codes "a\\") ≡ None)
    × (bash_line_word [] Double (codes "\\`\\\\\\\"") ≡ Some (codes "`\\\""))
unfolding bash_line_word bare_word_read bare_read double_read single_read word_read after
bash_reads = (refl, refl, refl, refl, refl, refl, refl, refl, refl, refl, refl, refl, refl, refl, refl, refl, refl, refl, refl, refl, refl, refl, refl)

-- ---- help texts, and shells that quote by themselves

abbrev shown_ones : List CompletionCandidate
shown_ones =
    helped (codes "a:b") (codes "c:d\ne")
    ∷ helped (codes "~root") (codes "\ne")
    ∷ helped (codes "x y") (27 ∷ codes "[2J")
    ∷ helped (codes "a\nb") (codes "Print")
    ∷ []

safe_replies :
    (safe_values_reply shown_ones ≡ codes "a:b\n~root\nx y\n")
    × (safe_lines_reply shown_ones ≡ codes "a:b\tc:d\nx y\n")
    × (safe_zsh_reply false shown_ones ≡ codes "a\\:b:c:d\n~root\nx y\n")
unfolding safe_help after cut_at with_front first_line without_return shown_line tab_help zsh_item colon_help
safe_replies = (refl, refl, refl)

-- ---- PowerShell

powershell_row :
    powershell_words_reply false
    (helped (codes "--all") (codes "All")
    ∷ new_candidate (codes "it's")
    ∷ new_candidate (codes "x$(touch hit)")
    ∷ new_candidate (codes "-a.b")
    ∷ new_candidate (codes "a.b")
    ∷ [])
    ≡ codes "--all\t--all\tAll\n'it''s'\tit's\n'x$(touch hit)'\tx$(touch hit)\n'-a.b'\t-a.b\na.b\ta.b\n"
unfolding safe_help after cut_at with_front first_line without_return powershell_line powershell_word shown_line tab_help
powershell_row = refl

powershell_reads :
    (powershell_line_read false (codes "--all\t--all\tAll") ≡ Some (entry_shown (safe_shown (helped (codes "--all") (codes "All")))))
    × (powershell_line_read false (codes "'it''s'\tit's") ≡ Some (entry_shown (safe_shown (new_candidate (codes "it's")))))
    -- a third piece that is empty: the value is the tooltip; a missing or an empty value is refused
    × (powershell_line_read false (codes "a\tb\t") ≡ Some (record { inserted = codes "a"; listed = codes "b"; tooltip = codes "b" }))
    × (powershell_line_read false (codes "a\tb\tc\td") ≡ Some (record { inserted = codes "a"; listed = codes "b"; tooltip = codes "c\td" }))
    × (powershell_line_read false (codes "a") ≡ None)
    × (powershell_line_read false (codes "a\t\tc") ≡ None)
    × (powershell_typed (codes "$(touch hit)") ≡ None)
    × (powershell_typed (codes "a b") ≡ None)
    × (powershell_typed (codes "-a.b") ≡ None)
    × (powershell_typed (codes "'a b") ≡ None)
    × (powershell_typed (codes "'a'b") ≡ None)
    × (powershell_typed (39 ∷ 226 ∷ 128 ∷ 152 ∷ 39 ∷ []) ≡ None)
    × (powershell_typed [] ≡ None)
unfolding safe_help after cut_at with_front first_line without_return powershell_line_read word_entry typed_entry entry_of tooltip_of powershell_typed quoted_whole powershell_signs sign_before sign line_shown
powershell_reads = (refl, refl, refl, refl, refl, refl, refl, refl, refl, refl, refl, refl, refl)

-- ---- locales, and values that a shell would change

-- in UTF-8, U+3042 followed by `;hit`; the byte 130 swallows a backslash in GBK
abbrev letter : List ℕ
letter = codes "x" ++ 227 ∷ 129 ∷ 130 ∷ codes ";hit"

-- U+E03B, which zsh's line takes for `;`, and U+E100
abbrev raw : List ℕ
raw = codes "x" ++ 238 ∷ 128 ∷ 187 ∷ codes "hit"

abbrev not_raw : List ℕ
not_raw = codes "x" ++ 238 ∷ 132 ∷ 128 ∷ []

kept_row :
    (is_bash_insertable (cursor false [] Bare) letter ≡ true)
    × (is_bash_insertable (cursor true [] Bare) letter ≡ false)
    × (is_bash_insertable (cursor true [] Bare) (codes "x;hit") ≡ true)
    × (is_zsh_insertable false letter ≡ true)
    × (is_zsh_insertable true letter ≡ false)
    × (is_zsh_insertable false raw ≡ false)
    × (is_zsh_insertable false not_raw ≡ true)
    × (is_powershell_insertable true (codes "--%") ≡ false)
    × (is_powershell_insertable true (codes "a\"b") ≡ true)
    × (is_powershell_insertable false (codes "a\"b") ≡ false)
unfolding after
kept_row = (refl, refl, refl, refl, refl, refl, refl, refl, refl, refl)

changed_row :
    (bash_value_read (cursor true [] Bare) (codes "x" ++ 227 ∷ 129 ∷ 130 ∷ codes "\\;hit") ≡ None)
    × (bash_value_read (cursor false [] Bare) (codes "x" ++ 227 ∷ 129 ∷ 130 ∷ codes "\\;hit") ≡ Some letter)
    × (bash_value_read (cursor true [] Bare) (codes "x\\;hit") ≡ Some (codes "x;hit"))
    × (zsh_item_read true letter ≡ None)
    × (zsh_item_read false raw ≡ None)
    × (zsh_item_read false letter ≡ Some (record { value = letter; help = None }))
    × (fish_item_read (codes "~root\tA user") ≡ None)
    × (fish_item_read (codes "~") ≡ None)
    × (fish_item_read (codes "~/x\tA file") ≡ Some (record { value = codes "~/x"; help = Some (codes "A file") }))
    -- U+00A0 and U+3000
    × (fish_item_read (194 ∷ 160 ∷ codes "x") ≡ None)
    × (fish_item_read (227 ∷ 128 ∷ 128 ∷ codes "x") ≡ None)
    × (powershell_line_read false (codes "'a\"b'\ta") ≡ None)
    × (powershell_line_read true (codes "'--%'\ta") ≡ None)
unfolding bash_value_read zsh_item_read fish_item_read shown_from marks marks_from bash_line_word bare_word_read bare_read word_read after cut_at with_front powershell_line_read word_entry typed_entry entry_of tooltip_of powershell_typed quoted_whole powershell_signs sign_before sign line_shown
changed_row = (refl, refl, refl, refl, refl, refl, refl, refl, refl, refl, refl, refl, refl)
