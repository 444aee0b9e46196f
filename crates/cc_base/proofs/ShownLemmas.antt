-- A shown text holds no control character.
use Rattle.std.proofs.Common.{◌≡◌, ◌&&◌, ℕ, Bool, true, false, List, [], ◌∷◌, ap₂, if◌then◌else◌, map, refl, subst, sym}
use Rattle.std.proofs.lemmas.Str.{chars-encodes, scalars-chars}
use Rattle.std.proofs.lemmas.Bool.{and_parts}
use Rattle.std.specs.Char.{is_control}
use Rattle.std.specs.List.{AllByRecursion}
use Rattle.std.specs.Str.{IsUtf8, all_scalars, chars}
use Rattle.cc_base.specs.Shown.{HoldsNoControl, on_one_line, visible}
use lib.Utf8.{scalar}

abbrev IsNoControl : ℕ → Type 0
IsNoControl c = is_control c ≡ false

shown_by : (control : Bool) (c : ℕ) → is_control c ≡ control
    → IsNoControl (if control then 63 else c)
shown_by true c is = refl
shown_by false c is = is

each_shown : (cs : List ℕ) → AllByRecursion IsNoControl (map visible cs)
each_shown [] = tt
each_shown (c ∷ cs) = (shown_by (is_control c) c refl, each_shown cs)

scalar_by : (control : Bool) (c : ℕ) → scalar c ≡ true → scalar (if control then 63 else c) ≡ true
scalar_by true c is = refl
scalar_by false c is = is

-- shown characters are characters
all_shown : (cs : List ℕ) → all_scalars cs ≡ true → all_scalars (map visible cs) ≡ true
all_shown [] are = refl
all_shown (c ∷ cs) are =
    let parts = and_parts (scalar c) (all_scalars cs) are in
    ap₂ (λ a b. a && b) (scalar_by (is_control c) c parts.0) (all_shown cs parts.1)

-- a text as `on_one_line` returns it holds no control character
pub shown_holds_none : (text : List ℕ) → IsUtf8 text → HoldsNoControl (on_one_line text)
shown_holds_none text utf8 =
    subst (AllByRecursion IsNoControl)
    (sym (chars-encodes (map visible (chars text)) (all_shown (chars text) (scalars-chars text utf8))))
    (each_shown (chars text))
