-- One more number of a list is in range, or not.
use Rattle.std.proofs.Common.{◌≡◌, ◌∙◌, ◌+◌, ◌<◌, ◌&&◌, ◌∷◌, ℕ, Bool, List, ap, drop, get_or, length, sym}
use Rattle.std.proofs.lemmas.List.{drop_more}

module _ {X : Type 0} (each : X → Bool) (all : List X → Bool)
    (by_each : (x : X) (xs : List X) → all (x ∷ xs) ≡ (each x && all xs)) where
  pub range_step : (xs : List X) (i : ℕ) (x : X) (is whole : Bool) → i < length xs → x ≡ get_or xs i x →
      each x ≡ is → all (drop i xs) ≡ whole → (is && all (drop (i + 1) xs)) ≡ whole
  range_step xs i x is whole within at passes left =
      sym (ap (λ b. b && all (drop (i + 1) xs)) passes)
      ∙ sym (by_each x (drop (i + 1) xs))
      ∙ sym (ap all (drop_more xs i x within ∙ ap (λ y. y ∷ drop (i + 1) xs) (sym at)))
      ∙ left
