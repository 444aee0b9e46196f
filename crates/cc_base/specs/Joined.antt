-- Texts that are written one after another, some with a separator before each but the first.
use Rattle.std.specs.Prelude.{ℕ, List, [], ◌∷◌, ◌++◌, Bool, true, false}

-- the separator, if a text comes before it
abbrev pub separator : List ℕ → Bool → List ℕ
separator between true = between
separator between false = []

-- texts with separators; `begun` says whether a text comes before them
abbrev pub joined_after : List ℕ → Bool → List (List ℕ) → List ℕ
joined_after between begun [] = []
joined_after between begun (text ∷ texts) =
    (separator between begun ++ text) ++ joined_after between true texts

-- whether there is a text
abbrev pub has_texts : List (List ℕ) → Bool
has_texts [] = false
has_texts (_ ∷ _) = true

-- texts with a separator before each but the first
abbrev pub joined : List ℕ → List (List ℕ) → List ℕ
joined between texts = joined_after between false texts

-- A text and some pieces after it, with brackets as in `((a ++ b) ++ c) ++ d`. Definitions of texts
-- have such brackets, so a written-out text equals its pieces by computation alone.
abbrev pub with_pieces : {P : Type 0} → (P → List ℕ) → List ℕ → List P → List ℕ
with_pieces text before [] = before
with_pieces text before (piece ∷ pieces) = with_pieces text (before ++ text piece) pieces
