-- The parts of a line that is printed.
use Rattle.std.proofs.Common.{◌≡◌, ◌∙◌, ◌++◌, ℕ, List, append_assoc, codes, decimal, string_bytes, sym, take}
use Rattle.complgen_check.specs.Places.{column_after, line_after}
use Rattle.complgen_check.specs.declared.errors.finding.Finding.{Finding}
use Rattle.complgen_check.specs.Lines.{finding_line, level_text, place_text}

regrouped : (a b c d e f g h : List ℕ) → a ++ b ++ c ++ d ++ e ++ f ++ g ++ h
    ≡ a ++ (b ++ (c ++ (d ++ (e ++ (f ++ (g ++ h))))))
regrouped a b c d e f g h = simp append_assoc

pub place_parts : (text : List ℕ) (line column : ℕ) (before : List ℕ)
    → text ≡ decimal line ++ (codes ":" ++ decimal column)
    → line ≡ line_after before → column ≡ column_after before → text ≡ place_text before
place_parts text line column before is first second =
    let joined : text ≡ (decimal line ++ codes ":") ++ decimal column =
    is ∙ sym (append_assoc (decimal line) (codes ":") (decimal column)) in
    cc

pub line_parts : (line place level path text bytes : List ℕ) (finding : Finding)
    → line ≡ place ++ (codes ": " ++ (level ++ (codes ": " ++ (path ++ (codes ": "
    ++ (text ++ codes "\n"))))))
    → place ≡ place_text (take finding.offset bytes) → level ≡ level_text finding.level
    → path ≡ string_bytes finding.path → text ≡ string_bytes finding.text
    → line ≡ finding_line bytes finding
line_parts line place level path text bytes finding is first second third fourth =
    let joined : line ≡ place ++ codes ": " ++ level ++ codes ": " ++ path ++ codes ": " ++ text ++ codes "\n" =
    is ∙ sym (regrouped place (codes ": ") level (codes ": ") path (codes ": ") text (codes "\n")) in
    cc
