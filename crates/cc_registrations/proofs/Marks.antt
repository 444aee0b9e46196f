-- The text after a mark, if the beginning of the text does not contain the mark.
use Rattle.std.proofs.Common.{◌≡◌, ℕ, true, false, List, [], ◌∷◌, ◌++◌, Some, None, option_map, refl, ◌∙◌, ap, append-nil}
use Rattle.cc_base.specs.Found.{after_mark, cut_at, up_to, with_front}
use Rattle.cc_base.proofs.Finding.{Cut, is_free, past_free, past_lacking}
use Rattle.cc_registrations.specs.Names.{identifier, is_identifier_byte}
use Rattle.cc_registrations.proofs.Identifiers.{identifier_lacks}

same_rest : (front : List ℕ) (cut : Cut) → option_map (λ c. c.1) (with_front front cut) ≡ option_map (λ c. c.1) cut
unfolding with_front
same_rest front None = refl
same_rest front (Some (before, rest)) = refl

whole_front : (front : List ℕ) (cut : Cut) → option_map (λ c. c.0) cut ≡ Some [] → option_map (λ c. c.0) (with_front front cut) ≡ Some front
unfolding with_front
whole_front front None h = cc
whole_front front (Some (before, rest)) h =
    let none : before ≡ [] = cc in
    ap (λ text. Some (front ++ text)) none ∙ ap Some (append-nil front)

-- the mark begins at no byte of a text
pub skips_free : (mark text rest : List ℕ) → is_free mark text rest ≡ true → after_mark mark (text ++ rest) ≡ after_mark mark rest
unfolding after_mark
skips_free mark text rest h = ap (option_map (λ c. c.1)) (past_free mark text rest h) ∙ same_rest text (cut_at mark rest)

-- its first byte does not occur in identifiers
pub skips_identifier : (first : ℕ) (mark name rest : List ℕ) → is_identifier_byte first ≡ false → after_mark (first ∷ mark) (identifier name ++ rest) ≡ after_mark (first ∷ mark) rest
unfolding after_mark
skips_identifier first mark name rest h =
    ap (option_map (λ c. c.1)) (past_lacking first mark (identifier name) rest (identifier_lacks first name h))
    ∙ same_rest (identifier name) (cut_at (first ∷ mark) rest)

-- and it follows an identifier
pub ends_identifier : (first : ℕ) (mark name rest : List ℕ) → is_identifier_byte first ≡ false → up_to (first ∷ mark) rest ≡ Some []
    → up_to (first ∷ mark) (identifier name ++ rest) ≡ Some (identifier name)
unfolding up_to
ends_identifier first mark name rest h follows =
    ap (option_map (λ c. c.0)) (past_lacking first mark (identifier name) rest (identifier_lacks first name h))
    ∙ whole_front (identifier name) (cut_at (first ∷ mark) rest) follows

-- both, one after the other
pub skips_named : (first : ℕ) (mark text name rest : List ℕ) → is_free (first ∷ mark) text (identifier name ++ rest) ≡ true → is_identifier_byte first ≡ false
    → after_mark (first ∷ mark) (text ++ (identifier name ++ rest)) ≡ after_mark (first ∷ mark) rest
skips_named first mark text name rest free h = skips_free (first ∷ mark) text (identifier name ++ rest) free ∙ skips_identifier first mark name rest h
