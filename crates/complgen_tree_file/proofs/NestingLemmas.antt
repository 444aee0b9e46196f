-- A value inside another nests less deeply.
use Rattle.std.proofs.Common.{◌≡◌, ℕ, zero, suc, ◌<◌, ◌≤◌, List, [], ◌∷◌, length, get_or, Option, Some, None, Ordering, Equal, nat_cmp, ap, arith}
use Rattle.std.specs.Cmp.Lexicographic.{slice_cmp}
use Rattle.std.specs.Ordering.{match_ordering}
use Rattle.serde_json.specs.Data.{Data, array, object, Items, Members, member, no_members, depth, items_depth, members_depth}
use Rattle.serde_json.specs.Find.{as_array, get, get_member}
use Rattle.complgen_tree_file.specs.JsonSeen.{items_view, view}
use Rattle.json.specs.declared.value.Value.{Value}
use Rattle.std.specs.declared.alloc.Global.{Global}

abbrev depth_found : Option Data → ℕ
depth_found None = 0
depth_found (Some d) = depth d

either_within : (o : Ordering) (a b : Option Data) (n : ℕ) → depth_found a ≤ n → depth_found b ≤ n
    → depth_found (match_ordering o a b a) ≤ n
either_within Equal a b n p q = q
either_within o a b n p q = p

member_within : (key : List ℕ) (ms : Members) → depth_found (get_member key ms) ≤ members_depth ms
member_within key no_members = omega arith
member_within key (member k d ms) =
    either_within (slice_cmp nat_cmp key k) (get_member key ms) (Some d)
    (members_depth (member k d ms)) (omega (arith, member_within key ms)) (omega arith)

-- the value at a key nests less deep than the object
pub found_is_flatter : (key : List ℕ) (d found : Data) → get key d ≡ Some found → depth found < depth d
found_is_flatter key (object ms) found h =
    let same : depth_found (get_member key ms) ≡ depth found = ap depth_found h in
    omega (arith, same, member_within key ms)
found_is_flatter key d found h = cc

abbrev items_depth_found : Option Items → ℕ
items_depth_found None = 0
items_depth_found (Some ds) = items_depth ds

item_within : (vs : List (Value Global)) (k : ℕ) (d : Value Global) → k < length vs
    → depth (view (get_or vs k d)) ≤ items_depth (items_view vs)
item_within [] k d h = absurd (omega arith)
item_within (v ∷ vs) zero d h = omega arith
item_within (v ∷ vs) (suc k) d h = omega (arith, item_within vs k d (omega arith))

list_is_flatter : (d : Data) (ds : Items) → as_array d ≡ Some ds → items_depth ds < depth d
list_is_flatter (array es) ds h =
    let same : items_depth es ≡ items_depth ds = ap items_depth_found h in omega (arith, same)
list_is_flatter d ds h = cc

-- an item of a list nests less deep than the list
pub item_is_flatter : (list : Data) (vs : List (Value Global)) (k : ℕ) (d : Value Global)
    → as_array list ≡ Some (items_view vs) → k < length vs → depth (view (get_or vs k d)) < depth list
item_is_flatter list vs k d is h =
    omega (arith, item_within vs k d h, list_is_flatter list (items_view vs) is)
