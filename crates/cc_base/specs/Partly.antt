-- Beginnings of texts: what a sink holds after a write that stopped.
use Rattle.std.specs.Prelude.{◌≡◌, ℕ, List, [], ◌∷◌, ◌++◌, Bool, true, false, ◌&&◌, ◌||◌, ◌==◌, refl}
use Rattle.std.proofs.Common.{ap, ◌∙◌}
use Rattle.std.proofs.lemmas.Bool.{eq-eqb, and_from}

-- whether the second text begins with the first
unfoldable pub begins : List ℕ → List ℕ → Bool
begins [] text = true
begins (x ∷ part) [] = false
begins (x ∷ part) (y ∷ text) = (x == y) && begins part text

-- whether the first text is the second, followed by a beginning of the third
unfoldable pub partly : List ℕ → List ℕ → List ℕ → Bool
partly new [] text = begins new text
partly [] (x ∷ old) text = false
partly (x ∷ new) (y ∷ old) text = (x == y) && partly new old text

or_within : (t p q : Bool) → (t && (p || q)) ≡ ((t && p) || (t && q))
or_within true p q = refl
or_within false p q = refl

pub begins_split : (new a b : List ℕ) → begins new (a ++ b) ≡ (begins new a || partly new a b)
unfolding begins partly
begins_split [] a b = refl
begins_split (x ∷ new) [] b = refl
begins_split (x ∷ new) (y ∷ a) b =
    ap (λ t. (x == y) && t) (begins_split new a b) ∙ or_within (x == y) (begins new a) (partly new a b)

-- a part of two texts is a part of the first, or the first and a part of the second
pub partly_split : (new old a b : List ℕ) →
    partly new old (a ++ b) ≡ (partly new old a || partly new (old ++ a) b)
unfolding partly
partly_split new [] a b = begins_split new a b
partly_split [] (x ∷ old) a b = refl
partly_split (x ∷ new) (y ∷ old) a b =
    ap (λ t. (x == y) && t) (partly_split new old a b)
    ∙ or_within (x == y) (partly new old a) (partly new (old ++ a) b)

-- nothing is a part of any text
pub partly_self : (old text : List ℕ) → partly old old text ≡ true
unfolding begins partly
partly_self [] text = refl
partly_self (x ∷ old) text = and_from (x == x) (partly old old text) (eq-eqb x x refl) (partly_self old text)
