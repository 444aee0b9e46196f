-- The readers of a tree file meet its form.
use Rattle.std.proofs.Common.{◌≡◌, ◌∙◌, ◌<◌, ◌≤◌, ◌+◌, ◌++◌, ℕ, List, [], ◌∷◌, Option, Some, None, ap, sym, refl}
use Rattle.std.proofs.Common.{length, take, get_or, option_map, arith}
use Rattle.std.specs.Prelude.{option_and_then, encode_utf8}
use Rattle.std.specs.declared.alloc.Global.{Global}
use Rattle.std.specs.Str.{IsUtf8, chars}
use Rattle.std.proofs.lemmas.List.{take_more}
use Rattle.std.proofs.lemmas.Str.{IsUtf8-past_char, chars_past_char, chars-nil}
use Rattle.serde_json.specs.Data.{Data}
use Rattle.complgen_tree_file.specs.JsonSeen.{items_view, view}
use Rattle.json.specs.declared.value.Value.{Value}
use Rattle.complgen_tree_file.specs.TreeForm.{all_of, only, pair_of, with_item}

-- ---- lists

-- the texts of two lists, where both have the form
abbrev both : {X : Type 0} → Option (List X) → Option (List X) → Option (List X)
both a b = option_and_then (λ xs. option_map (λ ys. xs ++ ys) b) a

same_option : {X : Type 0} (o : Option (List X)) → option_map (λ ys. [] ++ ys) o ≡ o
same_option None = refl
same_option (Some xs) = refl

both_step : {X : Type 0} (o : Option X) (a b : Option (List X))
    → option_and_then (λ x. option_map (λ xs. x ∷ xs) (both a b)) o
    ≡ both (option_and_then (λ x. option_map (λ xs. x ∷ xs) a) o) b
both_step None a b = refl
both_step (Some x) None b = refl
both_step (Some x) (Some xs) None = refl
both_step (Some x) (Some xs) (Some ys) = refl

all_of-append : {X : Type 0} (read : Data → Option X) (vs ws : List (Value Global))
    → all_of read (items_view (vs ++ ws))
    ≡ both (all_of read (items_view vs)) (all_of read (items_view ws))
all_of-append read [] ws = sym (same_option _)
all_of-append read (v ∷ vs) ws =
    ap (λ rest. option_and_then (λ x. option_map (λ xs. x ∷ xs) rest) (read (view v)))
    (all_of-append read vs ws)
    ∙ both_step (read (view v)) (all_of read (items_view vs)) (all_of read (items_view ws))

one_item : {X : Type 0} (list : Option (List X)) (o : Option X)
    → both list (option_and_then (λ x. Some (x ∷ [])) o) ≡ with_item list o
one_item None o = refl
one_item (Some xs) None = refl
one_item (Some xs) (Some x) = refl

-- one more item
pub all_of_next : {X : Type 0} (read : Data → Option X) (vs : List (Value Global)) (k : ℕ)
    (d : Value Global) → k < length vs
    → all_of read (items_view (take (k + 1) vs))
    ≡ with_item (all_of read (items_view (take k vs))) (read (view (get_or vs k d)))
all_of_next read vs k d h =
    ap (λ us. all_of read (items_view us)) (take_more vs k d h)
    ∙ all_of-append read (take k vs) (get_or vs k d ∷ [])
    ∙ one_item (all_of read (items_view (take k vs))) (read (view (get_or vs k d)))

-- a list that isn't of two items is no range
pub no_pair_below : (vs : List (Value Global)) → length vs < 2 → pair_of (items_view vs) ≡ None
no_pair_below (v ∷ w ∷ vs) h = absurd (omega arith)
no_pair_below vs h = refl

pub no_pair_above : (vs : List (Value Global)) → 3 ≤ length vs → pair_of (items_view vs) ≡ None
no_pair_above (v ∷ w ∷ x ∷ vs) h = refl
no_pair_above vs h = absurd (omega arith)

-- ---- characters

-- nothing follows the first character
pub only_one : (text rest : List ℕ) (c : ℕ) → IsUtf8 text → text ≡ encode_utf8 c ++ rest
    → length rest ≡ 0 → Some c ≡ only (chars text)
only_one text [] c utf8 e h =
    sym (ap only (chars_past_char text [] c utf8 e ∙ ap (λ cs. c ∷ cs) chars-nil))
only_one text (b ∷ rest) c utf8 e h = absurd (omega arith)

-- another character follows the first
pub not_only_one : (text rest more : List ℕ) (c d : ℕ) → IsUtf8 text → text ≡ encode_utf8 c ++ rest
    → rest ≡ encode_utf8 d ++ more → None ≡ only (chars text)
not_only_one text rest more c d utf8 e f =
    sym (ap only (chars_past_char text rest c utf8 e
    ∙ ap (λ cs. c ∷ cs) (chars_past_char rest more d (IsUtf8-past_char text rest c utf8 e) f)))
