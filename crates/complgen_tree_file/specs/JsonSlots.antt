-- The values at some keys of an object, each in a slot.
use Rattle.std.specs.Prelude.{◌≡◌, ◌&&◌, ◌++◌, ℕ, List, [], ◌∷◌, Bool, true, not, map, Option, option_map}
use Rattle.std.specs.Borrow.{Bor}
use Rattle.std.specs.List.{list_any}
use Rattle.std.specs.Str.{bytes_eq}
use Rattle.std.specs.declared.alloc.Global.{Global}
use Rattle.json.specs.declared.value.Value.{Value}
use Rattle.serde_json.specs.Data.{Data, Members}
use Rattle.serde_json.specs.Find.{get, get_member}
use Rattle.complgen_tree_file.specs.JsonSeen.{view}

-- the value in a slot
abbrev pub held : Option (Bor (Value Global)) → Option Data
held slot = option_map (λ value. view value.now) slot

-- the values in the slots
abbrev pub all_held : List (Option (Bor (Value Global))) → List (Option Data)
all_held slots = map held slots

-- the values of some members at the keys
abbrev pub members_at : List (List ℕ) → Members → List (Option Data)
members_at keys ms = map (λ key. get_member key ms) keys

-- the values of an object at the keys
abbrev pub values_at : List (List ℕ) → Data → List (Option Data)
values_at keys d = map (λ key. get key d) keys

-- each key is in the list once
abbrev pub are_distinct : List (List ℕ) → Bool
are_distinct [] = true
are_distinct (key ∷ keys) = not (list_any (λ other. bytes_eq other key) keys) && are_distinct keys

-- the first slots hold these values
abbrev pub Hold : List (Option (Bor (Value Global))) → List (Option Data) → Type 0
Hold slots values = (rest : List (Option Data)) × (all_held slots ≡ values ++ rest)
