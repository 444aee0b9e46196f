-- The text before the last byte.
use Rattle.std.proofs.Common.{◌≡◌, ◌==◌, ℕ, true, false, cond, List, [], ◌∷◌, ◌++◌, Some, None, option_map, ap}
use Rattle.cc_zsh.specs.Reader.{text_before}

pub before-last : (last : ℕ) (text : List ℕ) → last == last ≡ true →
    text_before last (text ++ last ∷ []) ≡ Some text
unfolding text_before
before-last last [] e = ap (λ b. cond b (Some []) None) e
before-last last (byte ∷ []) e = ap (option_map (λ before. byte ∷ before)) (before-last last [] e)
before-last last (byte ∷ next ∷ text) e =
    ap (option_map (λ before. byte ∷ before)) (before-last last (next ∷ text) e)

pub before-other : (last byte : ℕ) (text : List ℕ) → byte == last ≡ false →
    text_before last (text ++ byte ∷ []) ≡ None
unfolding text_before
before-other last byte [] e = ap (λ b. cond b (Some []) None) e
before-other last byte (first ∷ []) e =
    ap (option_map (λ before. first ∷ before)) (before-other last byte [] e)
before-other last byte (first ∷ next ∷ text) e =
    ap (option_map (λ before. first ∷ before)) (before-other last byte (next ∷ text) e)
