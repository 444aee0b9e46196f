-- The form of a word, from the results of the calls in the code.
use Rattle.std.proofs.Common.{◌≡◌, ◌<◌, ◌==◌, ◌++◌, ℕ, suc, List, [], ◌∷◌, length, get_or, Bool, true, false, eqb, refl, ap, ◌∙◌, arith}
use Rattle.std.specs.Prelude.{chars}
use Rattle.std.proofs.lemmas.Bool.{eqb-true, ne_eqb}
use Rattle.std.proofs.lemmas.List.{nil_from_length}
use Rattle.cc_base.specs.Bytes.{dash, equals}
use Rattle.cc_arg.specs.declared.parts.ArgParts.{ArgParts as Arg}
use Rattle.cc_engine.specs.WordClasses.{class_of, class_of_form}
use Rattle.cc_engine.specs.Words.{Form, Long, Other, Short, TwoHyphens, before_equals, form_of, has_equals, hyphen_form, long_form}

pub form_plain : (w : List ℕ) → ((rest : List ℕ) → w ≡ dash ∷ rest → ⊥) → form_of w ≡ Other
form_plain [] h = refl
form_plain (c ∷ s) h = rw (ne_eqb c dash (λ e. h s (ap (λ x. x ∷ s) e))) refl

hyphen_short : (s : List ℕ) → (length s == 0) ≡ false → ((rest : List ℕ) → s ≡ dash ∷ rest → ⊥) → hyphen_form s ≡ Short (chars s)
hyphen_short [] e h = cc
hyphen_short (c ∷ s) e h = rw (ne_eqb c dash (λ e. h s (ap (λ x. x ∷ s) e))) refl

pub empty : (s : List ℕ) → (length s == 0) ≡ true → s ≡ []
empty s e = nil_from_length s (eqb-true (length s) 0 e)

pub form_hyphen : (w s : List ℕ) → w ≡ dash ∷ s → (length s == 0) ≡ true → form_of w ≡ Other
form_hyphen w s e h = ap form_of (e ∙ ap (λ t. dash ∷ t) (empty s h))

pub form_short : (w s : List ℕ) → w ≡ dash ∷ s → (length s == 0) ≡ false → ((rest : List ℕ) → s ≡ dash ∷ rest → ⊥) → form_of w ≡ Short (chars s)
form_short w s e f h = ap form_of e ∙ hyphen_short s f h

pub form_two : (w s t : List ℕ) → w ≡ dash ∷ s → s ≡ dash ∷ t → (length t == 0) ≡ true → form_of w ≡ TwoHyphens
form_two w s t e f h = ap form_of (e ∙ ap (λ x. dash ∷ x) (f ∙ ap (λ x. dash ∷ x) (empty t h)))

pub no_equals_tail : (c : ℕ) (s : List ℕ) → ((i : ℕ) → i < length (c ∷ s) → get_or (c ∷ s) i 0 ≡ equals → ⊥) → (i : ℕ) → i < length s → get_or s i 0 ≡ equals → ⊥
no_equals_tail c s h i below e = h (suc i) (omega arith) e

flag_none : (s : List ℕ) → ((i : ℕ) → i < length s → get_or s i 0 ≡ equals → ⊥) → (before_equals s ≡ s) × (has_equals s ≡ false)
flag_none [] h = (refl, refl)
flag_none (c ∷ s) h =
    let other : eqb c equals ≡ false = ne_eqb c equals (h 0 (omega arith)) in
    let rest = flag_none s (no_equals_tail c s h) in
    (rw other (ap (λ t. c ∷ t) rest.0), rw other rest.1)

pub flag_some : (s t : List ℕ) → ((i : ℕ) → i < length s → get_or s i 0 ≡ equals → ⊥) → (before_equals (s ++ equals ∷ t) ≡ s) × (has_equals (s ++ equals ∷ t) ≡ true)
flag_some [] t h = (refl, refl)
flag_some (c ∷ s) t h =
    let other : eqb c equals ≡ false = ne_eqb c equals (h 0 (omega arith)) in
    let rest = flag_some s t (no_equals_tail c s h) in
    (rw other (ap (λ t. c ∷ t) rest.0), rw other rest.1)

long_is : (s flag : List ℕ) (b : Bool) → (length s == 0) ≡ false → (before_equals s ≡ flag) × (has_equals s ≡ b) → long_form s ≡ Long flag b
long_is [] flag b e h = cc
long_is (c ∷ s) flag b e h = let x = h.0 in let y = h.1 in ap (λ f. Long f (has_equals (c ∷ s))) x ∙ ap (λ v. Long flag v) y

pub form_flag : (w s t : List ℕ) → w ≡ dash ∷ s → s ≡ dash ∷ t → (length t == 0) ≡ false → ((i : ℕ) → i < length t → get_or t i 0 ≡ equals → ⊥) → form_of w ≡ Long t false
form_flag w s t e f g h = ap form_of (e ∙ ap (λ x. dash ∷ x) f) ∙ long_is t t false g (flag_none t h)

pub form_equals : (w s t flag value : List ℕ) → w ≡ dash ∷ s → s ≡ dash ∷ t → (length t == 0) ≡ false → t ≡ flag ++ equals ∷ value → ((i : ℕ) → i < length flag → get_or flag i 0 ≡ equals → ⊥) → form_of w ≡ Long flag true
form_equals w s t flag value e f g is h = ap form_of (e ∙ ap (λ x. dash ∷ x) f) ∙ long_is t flag true g (rw is (flag_some flag value h))

pub class_by : (arguments : List Arg) (w : List ℕ) (form : Form) → form_of w ≡ form → class_of arguments w ≡ class_of_form arguments form
unfolding class_of
class_by arguments w form e = ap (class_of_form arguments) e
