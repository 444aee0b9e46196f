-- Lists of faults, and the faults of an object and of a list.
use Rattle.std.proofs.Common.{◌≡◌, ◌&&◌, ◌++◌, ℕ, List, [], ◌∷◌, Bool, true, false, Option, Some, None, is_some, not, length, refl}
use Rattle.serde_json.specs.Data.{Data, object}
use Rattle.serde_json.specs.Find.{as_object}
use Rattle.complgen_tree_file.specs.JsonKeys.{has_only}
use Rattle.complgen_tree_file.specs.Faults.{is_nil}
use Rattle.complgen_tree_file.specs.TreeForm.{with_item}

pub nil_by_length : {A B : Type 0} (xs : List A) (ys : List B) → length xs ≡ length ys
    → is_nil xs ≡ is_nil ys
nil_by_length [] [] same = refl
nil_by_length [] (y ∷ ys) same = absurd (cc same)
nil_by_length (x ∷ xs) [] same = absurd (cc same)
nil_by_length (x ∷ xs) (y ∷ ys) same = refl

pub nil_append : {A : Type 0} (xs ys : List A) → is_nil (xs ++ ys) ≡ (is_nil xs && is_nil ys)
nil_append [] ys = refl
nil_append (x ∷ xs) ys = refl

never : (before : Bool) → ((before && false) && true) ≡ ((before && false) && false)
never true = refl
never false = refl

-- a value that is not an object does not have only some keys
pub only_objects : (keys : List (List ℕ)) (d : Data) (before : Bool)
    → ((before && has_only keys d) && not (is_some (as_object d)))
    ≡ ((before && has_only keys d) && false)
only_objects keys (object ms) before = refl
only_objects keys d before = never before

-- a list and one item more
pub both_there : {X : Type 0} (before : Bool) (list : Option (List X)) (item : Option X)
    → ((before && is_some list) && is_some item)
    ≡ (before && is_some (with_item list item))
both_there true None item = refl
both_there true (Some xs) None = refl
both_there true (Some xs) (Some x) = refl
both_there false list item = refl
