-- Examples of indexes and of replies as the shells receive them.
use Rattle.std.proofs.Common.{◌≡◌, ◌++◌, ℕ, true, false, List, [], ◌∷◌, Some, None, arith, codes, refl}
use Rattle.cc_candidates.specs.Candidate.{new_candidate}
use Rattle.cc_candidates.specs.declared.candidate.CompletionCandidate.{CompletionCandidate}
use Rattle.cc_replies.specs.Environment.{IsIndex}
use Rattle.cc_replies.specs.Reply.{ValuesRead, are_readable_lines, are_readable_values, are_readable_zsh_items, colon_help, first_line, lines_reply, shown_line}
use Rattle.cc_replies.specs.Reply.{tab_help, values_read, values_reply, without_return, zsh_item, zsh_reply}
use Rattle.cc_replies.proofs.ReplyReadings.{values_back}
use Rattle.cc_base.specs.Found.{after, cut_at, with_front}

-- ---- indexes

two_row : IsIndex (Some (codes "2")) 2
two_row = record { number = λ _. refl; other = λ none. absurd (none (grind arith)) }

plus_row : IsIndex (Some (codes "+2")) 2
plus_row = record { number = λ _. refl; other = λ none. absurd (none (grind arith)) }

word_row : IsIndex (Some (codes "one")) 0
word_row = record { number = grind arith; other = λ _. refl }

empty_row : IsIndex (Some (codes "")) 0
empty_row = record { number = grind arith; other = λ _. refl }

minus_row : IsIndex (Some (codes "-1")) 0
minus_row = record { number = grind arith; other = λ _. refl }

-- 2 ^ 64 does not fit in a `usize`
large_row : IsIndex (Some (codes "18446744073709551616")) 0
large_row = record { number = grind arith; other = λ _. refl }

huge_row : IsIndex (Some (codes "99999999999999999999")) 0
huge_row = record { number = grind arith; other = λ _. refl }

unset_row : IsIndex None 0
unset_row = refl

-- ---- replies

-- a candidate with a help text
abbrev helped : List ℕ → List ℕ → CompletionCandidate
helped value help = record (new_candidate value) { help = Some help }

replies :
    -- two values for bash, which sets a vertical tab between them
    (values_reply (11 ∷ [])
    (new_candidate (codes "t") ∷ helped (codes "help") (codes "Print") ∷ [])
    ≡ codes "t" ++ 11 ∷ codes "help")
    × (values_reply (codes "\n")
    (new_candidate (codes "t") ∷ new_candidate (codes "help") ∷ [])
    ≡ codes "t\nhelp")
    -- a colon in a value, and one in a help text
    × (zsh_reply (codes "\n")
    (helped (codes "a:b") (codes "c:d\ne") ∷ new_candidate (codes "t") ∷ [])
    ≡ codes "a\\:b:c:d\nt")
    × (lines_reply
    (helped (codes "--help") (codes "Print help\r\nand more") ∷ new_candidate (codes "t") ∷ [])
    ≡ codes "--help\tPrint help\nt\n")
unfolding zsh_item colon_help after cut_at with_front first_line without_return shown_line tab_help
replies = (refl, refl, refl, refl)

-- ---- the candidates of `app` for an empty word; its child `test` is shown as `t`

abbrev three : List CompletionCandidate
three =
    new_candidate (codes "t")
    ∷ helped (codes "help") (codes "Print this message or the help of the given subcommand(s)")
    ∷ helped (codes "--help") (codes "Print help") ∷ []

three_replies :
    (values_reply (codes "\n") three ≡ codes "t\nhelp\n--help")
    × (zsh_reply (codes "\n") three
    ≡ codes "t\nhelp:Print this message or the help of the given subcommand(s)\n--help:Print help")
    × (lines_reply three
    ≡ codes "t\nhelp\tPrint this message or the help of the given subcommand(s)\n--help\tPrint help\n")
    -- their replies are read back, with either separator that shells set
    × (are_readable_values 11 three ≡ true)
    × (are_readable_zsh_items 10 three ≡ true)
    × (are_readable_lines three ≡ true)
unfolding zsh_item colon_help after cut_at with_front first_line without_return shown_line tab_help
three_replies = (refl, refl, refl, refl, refl, refl)

-- a help text with the separator in its first line, and a value with a tab
abbrev spread : List CompletionCandidate
spread = helped (codes "a\tb") (codes "x" ++ 11 ∷ codes "y\nz") ∷ []

-- bash and Elvish receive no help texts, and no values are separated by a tab
spread_values_row : values_read 11 (values_reply (11 ∷ []) spread) ≡ codes "a\tb" ∷ []
unfolding ValuesRead
spread_values_row = values_back (11 ∷ []) spread 11 refl refl

readable :
    -- zsh receives the help text
    (are_readable_zsh_items 11 spread ≡ false)
    -- with a line feed between items, that help text stays in one piece
    × (are_readable_zsh_items 10 spread ≡ true)
    -- in a line, a tab ends the value
    × (are_readable_lines spread ≡ false)
    -- items of zsh have colons and backslashes of their own
    × (are_readable_zsh_items 58 three ≡ false)
    -- an empty value is not read back, but a line may be empty before its help text
    × (are_readable_values 10 (new_candidate [] ∷ []) ≡ false)
    × (are_readable_lines (helped [] (codes "Print") ∷ []) ≡ true)
unfolding after cut_at with_front first_line without_return
readable = (refl, refl, refl, refl, refl, refl)
