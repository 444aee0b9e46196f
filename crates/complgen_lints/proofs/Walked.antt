-- Conditions under which nothing is found, and no warning says that a premise does not hold.
use Rattle.std.proofs.Common.{◌≡◌, ◌∙◌, ap₂, refl, ℕ, suc, Bool, true, false, ◌&&◌, IsTrue, List, [], ◌∷◌, ◌++◌, map}
use Rattle.std.specs.List.{list_all}
use Rattle.std.proofs.lemmas.Bool.{and_parts}
use Rattle.complgen_lints.specs.Findings.{placed_finding}
use Rattle.complgen_lints.specs.Lists.{each_from, is_nil, unless}
use Rattle.complgen_lints.specs.Notes.{are_notes, is_note}
use Rattle.complgen_lints.specs.Premises.{premise_at, premises_in}
use Rattle.complgen_lints.specs.declared.found.Finding.{Finding}
use Rattle.complgen_lints.specs.declared.place.TreePlace.{TreePlace}
use Rattle.complgen_lints.specs.declared.warning.Kind.{Kind}
use Rattle.complgen_lints.specs.declared.warning.Kind.TheVariants as kind
use Rattle.complgen_lints.specs.declared.warning.Premise.{Premise}
use Rattle.complgen_lints.specs.declared.warning.Warning.{Warning}

-- ---- notes

note_none : (place : TreePlace) (kind : Kind) (others : List (Finding Premise)) → IsTrue (is_note kind) → premise_at place kind ++ others ≡ others
note_none place (kind.Premise premise) others h = cc
note_none place (kind.Advice advice) others h = refl

-- no note says that a premise does not hold
pub notes_none : (warnings : List Warning) → IsTrue (are_notes warnings) → premises_in warnings ≡ []
notes_none [] h = refl
notes_none (warning ∷ warnings) h =
    let parts = and_parts (is_note warning.kind) (are_notes warnings) h in
    note_none warning.place warning.kind (premises_in warnings) parts.0 ∙ notes_none warnings parts.1

-- ---- lists that are empty exactly if a test passes

pub nil_append : {A : Type 0} (some others : List A) → is_nil (some ++ others) ≡ (is_nil some && is_nil others)
nil_append [] others = refl
nil_append (thing ∷ some) others = refl

pub unless_nil : {A : Type 0} (test : Bool) (thing : A) → is_nil (unless test thing) ≡ test
unless_nil true thing = refl
unless_nil false thing = refl

pub each_only : {A B : Type 0} (f : ℕ → A → List B) (test : A → Bool) →
    ((index : ℕ) (thing : A) → is_nil (f index thing) ≡ test thing) →
    (index : ℕ) (things : List A) → is_nil (each_from f index things) ≡ list_all test things
each_only f test h index [] = refl
each_only f test h index (thing ∷ things) =
    nil_append (f index thing) (each_from f (suc index) things)
    ∙ ap₂ (λ a b. a && b) (h index thing) (each_only f test h (suc index) things)

pub placed_nil : (path : List ℕ) (findings : List (Finding Premise)) → is_nil (map (placed_finding path) findings) ≡ is_nil findings
placed_nil path [] = refl
placed_nil path (finding ∷ findings) = refl
