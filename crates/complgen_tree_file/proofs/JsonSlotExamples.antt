-- Objects and the values at some keys.
use Rattle.std.proofs.Common.{◌≡◌, List, [], ◌∷◌, None, Some, codes, false, refl, true, ℕ}
use Rattle.serde_json.specs.Data.{Data, boolean, member, no_members, null, object, put, string}
use Rattle.serde_json.proofs.OnLiterals.{serde_json_on_literals}
use Rattle.complgen_tree_file.specs.JsonSlots.{are_distinct, members_at, values_at}

abbrev keys : List (List ℕ)
keys = codes "id" ∷ codes "long" ∷ codes "short" ∷ []

-- `{"id":"v","short":"v"}`
abbrev verbose : Data
verbose = object (member (codes "id") (string (codes "v")) (member (codes "short") (string (codes "v")) no_members))

-- a key that is missing has no value, whatever the order of the keys
in_their_order : values_at keys verbose ≡ Some (string (codes "v")) ∷ None ∷ Some (string (codes "v")) ∷ []
unfolding serde_json_on_literals
in_their_order = refl

-- a text has no keys
in_no_object : values_at keys (string (codes "id")) ≡ None ∷ None ∷ None ∷ []
unfolding serde_json_on_literals
in_no_object = refl

-- the last value of a key that is there twice counts
the_last : members_at keys (put (codes "id") null (put (codes "id") (boolean true) no_members))
    ≡ Some null ∷ None ∷ None ∷ []
unfolding serde_json_on_literals
the_last = refl

each_once : are_distinct keys ≡ true
each_once = refl

one_twice : are_distinct (codes "id" ∷ codes "long" ∷ codes "id" ∷ []) ≡ false
one_twice = refl
