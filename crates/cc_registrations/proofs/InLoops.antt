-- Beginnings of texts that loops write byte by byte, or in two parts.
use Rattle.std.proofs.Common.{◌≡◌, ◌≤◌, ◌∙◌, ap, ℕ, List, [], ◌∷◌, ◌++◌, length, true}
use Rattle.std.specs.Prelude.{Bool, ◌||◌}
use Rattle.cc_base.specs.Partly.{partly, partly_split}
use Rattle.cc_base.proofs.WrittenTexts.{in_steps, within, within_byte, within_step}

pub within_part : (low n m a b c : List ℕ) → length low ≤ length m → partly n m a ≡ true
    → within low n (m ++ ((a ++ b) ++ c)) ≡ true
within_part low n m a b c l p =
    let P : Bool → Bool = λ t. t || partly n (m ++ a) b in
    within_step low n m (a ++ b) c l (partly_split n m a b ∙ ap P p)

pub ruleset in_bytes = (in_steps, within_byte)

pub ruleset in_parts = (in_steps, partly_split, within_part)
