-- Texts that are written one after another, with a separator before each but the first.
use Rattle.std.proofs.Common.{◌≡◌, ℕ, Bool, true, false, ◌||◌, List, [], ◌∷◌, ◌++◌, flat_map, refl, sym, ap, ◌∙◌, append_assoc}
use Rattle.std.proofs.lemmas.List.{append-nil}
use Rattle.std.proofs.Math.Bool.{or_assoc}
use Rattle.cc_base.specs.Joined.{has_texts, joined_after, with_pieces}

-- the texts of two lists, joined
pub joined_append : (between : List ℕ) (begun : Bool) (texts more : List (List ℕ)) →
    joined_after between begun (texts ++ more)
    ≡ joined_after between begun texts ++ joined_after between (begun || has_texts texts) more
joined_append between true [] more = refl
joined_append between false [] more = refl
joined_append between true (text ∷ texts) more =
    ap (λ t. (between ++ text) ++ t) (joined_append between true texts more)
    ∙ sym (append_assoc (between ++ text) (joined_after between true texts)
    (joined_after between true more))
joined_append between false (text ∷ texts) more =
    ap (λ t. text ++ t) (joined_append between true texts more)
    ∙ sym (append_assoc text (joined_after between true texts)
    (joined_after between true more))

pub has_texts_append : (texts more : List (List ℕ)) →
    has_texts (texts ++ more) ≡ (has_texts texts || has_texts more)
has_texts_append [] more = refl
has_texts_append (text ∷ texts) more = refl

-- after some texts are written, the bytes taken and the texts that remain make up the whole
pub joined_step : (between : List ℕ) (begun now : Bool) (first rest : List (List ℕ))
    (before taken whole : List ℕ) →
    taken ≡ before ++ joined_after between begun first → now ≡ (begun || has_texts first) →
    before ++ joined_after between begun (first ++ rest) ≡ whole →
    taken ++ joined_after between now rest ≡ whole
joined_step between begun now first rest before taken whole step is so_far =
    ap (λ t. t ++ joined_after between now rest) step
    ∙ append_assoc before (joined_after between begun first) (joined_after between now rest)
    ∙ ap (λ b. before ++ (joined_after between begun first ++ joined_after between b rest)) is
    ∙ ap (λ t. before ++ t) (sym (joined_append between begun first rest)) ∙ so_far

-- the same for whether there is a text
pub begun_step : (begun now whole : Bool) (first rest : List (List ℕ)) →
    now ≡ (begun || has_texts first) →
    (begun || has_texts (first ++ rest)) ≡ whole → (now || has_texts rest) ≡ whole
begun_step begun now whole first rest is so_far =
    ap (λ b. b || has_texts rest) is ∙ or_assoc begun (has_texts first) (has_texts rest)
    ∙ ap (λ b. begun || b) (sym (has_texts_append first rest)) ∙ so_far

-- pieces after a text, whatever the brackets
pieces_after : {P : Type 0} (text : P → List ℕ) (before : List ℕ) (pieces : List P) →
    with_pieces text before pieces ≡ before ++ flat_map text pieces
pieces_after text before [] = sym (append-nil before)
pieces_after text before (piece ∷ pieces) =
    pieces_after text (before ++ text piece) pieces
    ∙ append_assoc before (text piece) (flat_map text pieces)

pub pieces_flat : {P : Type 0} (text : P → List ℕ) (pieces : List P) →
    with_pieces text [] pieces ≡ flat_map text pieces
pieces_flat text pieces = pieces_after text [] pieces
