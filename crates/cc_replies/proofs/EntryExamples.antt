-- The entries that PowerShell makes of some replies.
use Rattle.std.proofs.Common.{◌≡◌, ℕ, true, false, List, [], ◌∷◌, Some, None, codes, refl}
use Rattle.cc_base.specs.Found.{after, cut_at, ended, with_front}
use Rattle.cc_candidates.specs.Candidate.{new_candidate}
use Rattle.cc_candidates.specs.declared.candidate.CompletionCandidate.{CompletionCandidate}
use Rattle.cc_replies.specs.PowershellEntries.{Entry, are_readable_entries, entries_read, entry_of, output_lines, split_entry}
use Rattle.cc_replies.specs.Reply.{are_readable_lines, first_line, without_return}

-- a candidate with a help text
abbrev helped : List ℕ → List ℕ → CompletionCandidate
helped value help = record (new_candidate value) { help = Some help }

abbrev entry : List ℕ → List ℕ → Entry
entry value tooltip = record { inserted = value; listed = value; tooltip = tooltip }

lines_row :
    (output_lines false [] (codes "a\nb\n") ≡ codes "a" ∷ codes "b" ∷ [])
    × (output_lines false [] (codes "a\r\nb\rc") ≡ codes "a" ∷ codes "b" ∷ codes "c" ∷ [])
    × (output_lines false [] (codes "a\n\nb") ≡ codes "a" ∷ [] ∷ codes "b" ∷ [])
    × (output_lines false [] (codes "\n\r\n\r") ≡ [] ∷ [] ∷ [] ∷ [])
    × (output_lines false [] [] ≡ [])
unfolding output_lines ended
lines_row = (refl, refl, refl, refl, refl)

-- a help text, none, one with a tab, and an empty one: the registration shows the value in the place
-- of the third, and the fourth is refused
entries_row :
    entries_read (codes "a\tfirst\nb\nc\tone\ttwo\nd\t\n\n")
    ≡ Some (entry (codes "a") (codes "first"))
    ∷ Some (entry (codes "b") (codes "b"))
    ∷ Some (entry (codes "c") (codes "c"))
    ∷ None
    ∷ None
    ∷ []
unfolding entries_read output_lines ended split_entry entry_of
entries_row = refl

-- the same as replies: fish reads all of them back
readable_row :
    (are_readable_entries (helped (codes "a") (codes "first\nmore\t") ∷ new_candidate (codes "b") ∷ []) ≡ true)
    × (are_readable_entries (helped (codes "c") (codes "one\ttwo") ∷ []) ≡ false)
    × (are_readable_lines (helped (codes "c") (codes "one\ttwo") ∷ []) ≡ true)
    × (are_readable_entries (helped (codes "d") (codes "\nmore") ∷ []) ≡ false)
    × (are_readable_lines (helped (codes "d") (codes "\nmore") ∷ []) ≡ true)
    × (are_readable_entries (new_candidate [] ∷ []) ≡ false)
    × (are_readable_lines (new_candidate [] ∷ []) ≡ true)
    × (are_readable_entries (new_candidate (codes "a\rb") ∷ []) ≡ false)
    × (are_readable_entries (helped (codes "a") (codes "b\rc") ∷ []) ≡ false)
    × (are_readable_entries (helped (codes "a") (codes "b\r\nc") ∷ []) ≡ true)
unfolding after cut_at with_front first_line without_return
readable_row = (refl, refl, refl, refl, refl, refl, refl, refl, refl, refl)
