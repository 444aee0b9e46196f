-- The keys of an object.
use Rattle.std.specs.Prelude.{ℕ, List, [], ◌∷◌, Bool, false}
use Rattle.std.specs.List.{list_all, list_any}
use Rattle.std.specs.Option.{option_map_or}
use Rattle.std.specs.Str.{bytes_eq}
use Rattle.serde_json.specs.Data.{Data, Members, member, no_members}
use Rattle.serde_json.specs.Find.{as_object}

-- the keys of some members
abbrev pub keys_in : Members → List (List ℕ)
keys_in no_members = []
keys_in (member key d ms) = key ∷ keys_in ms

-- the key is one of these
abbrev pub is_one_of : List (List ℕ) → List ℕ → Bool
is_one_of keys key = list_any (λ known. bytes_eq known key) keys

-- an object with no key but these
abbrev pub has_only : List (List ℕ) → Data → Bool
has_only keys d = option_map_or (λ ms. list_all (is_one_of keys) (keys_in ms)) (as_object d) false
