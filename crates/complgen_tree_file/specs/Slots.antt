-- The values at the keys of some settings, in the slots of an object's values.
use Rattle.std.specs.Prelude.{◌≡◌, ◌+◌, ⊤, ℕ, List, [], ◌∷◌, Option, None, get_or}
use Rattle.std.specs.Borrow.{Bor}
use Rattle.std.specs.declared.alloc.Global.{Global}
use Rattle.json.specs.declared.value.Value.{Value}
use Rattle.serde_json.specs.Data.{Data}
use Rattle.serde_json.specs.Find.{get}
use Rattle.complgen_tree_file.specs.JsonSlots.{held}
use Rattle.complgen_tree_file.specs.TreeForm.{Setting}

-- from an index on, each slot holds what the value has at the key of the next setting
abbrev pub AreHeldFrom : {S : Type 0} → ℕ → List (Setting S) → List (Option (Bor (Value Global))) → Data
    → Type 0
AreHeldFrom index [] slots d = ⊤
AreHeldFrom index (one ∷ settings) slots d = (held (get_or slots index None) ≡ get one.key d)
    × AreHeldFrom (index + 1) settings slots d
