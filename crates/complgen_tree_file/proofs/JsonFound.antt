-- The same is found in a value and in its view.
use Rattle.std.proofs.Common.{◌≡◌, ◌∙◌, ◌&&◌, ◌||◌, ◌^◌, ◌+◌, ◌<◌, drop, get_or, length, ℕ, Bool, true, false, List, [], ◌∷◌, Option, Some, None, Bor, Global, Ordering, Less, Equal, Greater, ap, ap₂, bytes_eq, cond, if◌then◌else◌, is_eq, is_some, map, nat_cmp, refl, subst, sym, true≢false}
use Rattle.std.specs.Prelude.{option_and_then, option_map, nat_le, nat_lt}
use Rattle.std.specs.Float.{binary64, float_is_finite}
use Rattle.std.specs.List.{list_all, list_any}
use Rattle.std.specs.Cmp.Lexicographic.{slice_cmp}
use Rattle.std.specs.Ordering.{match_ordering}
use Rattle.std.proofs.Math.Bool.{and_assoc, and_comm, and-true}
use Rattle.std.proofs.lemmas.List.{drop_more}
use Rattle.std.proofs.lemmas.Map.Text.{is_eq-slice_cmp}
use Rattle.std.proofs.lemmas.Slice.Eq.{bytes_eq-Decides}
use Rattle.fast_float.specs.Text.{Parts, digits_of, nearest, with_sign}
use Rattle.json.specs.Find as borrowed
use Rattle.json.specs.Json as borrowed_json
use Rattle.json.specs.Value as views
use Rattle.json.specs.declared.value.Value.{Value}
use Rattle.serde_json.specs.Data.{Data, Num, float, negative, Members, member, no_members, put}
use Rattle.serde_json.specs.Find.{as_bool, as_null, as_number, as_str, as_u64, get, get_member}
use Rattle.serde_json.specs.Read.{is_integer, number_from, number_of}
use Rattle.serde_json.proofs.Views.{get_member-put, get_member-put_other}
use Rattle.complgen_tree_file.specs.JsonKeys.{is_one_of, keys_in}
use Rattle.complgen_tree_file.specs.JsonSeen.{data_of, number_seen, members_put, members_view, view}

no_text : (o : Option Num) → as_str (number_seen o) ≡ None
no_text None = refl
no_text (Some n) = refl

pub text_seen : (j : borrowed_json.Json) → borrowed.as_str j ≡ as_str (data_of j)
text_seen (borrowed_json.number text) = sym (no_text (number_of text))
text_seen j = refl

no_boolean : (o : Option Num) → as_bool (number_seen o) ≡ None
no_boolean None = refl
no_boolean (Some n) = refl

pub boolean_seen : (j : borrowed_json.Json) → borrowed.as_bool j ≡ as_bool (data_of j)
boolean_seen (borrowed_json.number text) = sym (no_boolean (number_of text))
boolean_seen j = refl

unsigned_seen : (o : Option Num)
    → option_and_then as_u64 o ≡ option_and_then as_u64 (as_number (number_seen o))
unsigned_seen None = refl
unsigned_seen (Some n) = refl

pub whole_seen : (j : borrowed_json.Json)
    → option_and_then (λ text. option_and_then as_u64 (number_of text)) (borrowed.as_number j)
    ≡ option_and_then as_u64 (as_number (data_of j))
whole_seen (borrowed_json.number text) = unsigned_seen (number_of text)
whole_seen j = refl

abbrev is_null_seen : Data → Bool
is_null_seen d = is_some (as_null d)

no_null : (o : Option Num) → false ≡ is_null_seen (number_seen o)
no_null None = refl
no_null (Some n) = refl

pub null_seen : (j : borrowed_json.Json) → borrowed.is_null j ≡ is_some (as_null (data_of j))
null_seen (borrowed_json.number text) = no_null (number_of text)
null_seen j = refl

-- ---- the value at a key

abbrev found_or : Option Data → Option Data → Option Data
found_or None earlier = earlier
found_or (Some d) earlier = Some d

found_put_at : (name key : List ℕ) (d : Data) (found : Members) (is : Bool)
    → bytes_eq key name ≡ is
    → get_member name (put key d found) ≡ cond is (Some d) (get_member name found)
found_put_at name key d found true e =
    let same : key ≡ name = (bytes_eq-Decides key name).0 e in
    subst (λ k. get_member k (put key d found) ≡ Some d) same (get_member-put key d found)
found_put_at name key d found false e = get_member-put_other name key d found (λ same.
    absurd (true≢false (sym ((bytes_eq-Decides key name).1 (sym same)) ∙ e)))

found_put : (name key : List ℕ) (d : Data) (found : Members)
    → get_member name (put key d found)
    ≡ cond (bytes_eq key name) (Some d) (get_member name found)
found_put name key d found = found_put_at name key d found (bytes_eq key name) refl

later : (is : Bool) (j : borrowed_json.Json) (o : Option borrowed_json.Json) (r : Option Data)
    → found_or (option_map data_of o) (cond is (Some (data_of j)) r)
    ≡ found_or (option_map data_of (borrowed.later_or o (cond is (Some j) None))) r
later true j None r = refl
later true j (Some k) r = refl
later false j None r = refl
later false j (Some k) r = refl

members_found : (name : List ℕ) (ms : borrowed_json.Members) (found : Members)
    → get_member name (members_put ms found)
    ≡ found_or (option_map data_of (borrowed.get_member name ms)) (get_member name found)
members_found name borrowed_json.no_members found = refl
members_found name (borrowed_json.member key j ms) found =
    members_found name ms (put key (data_of j) found)
    ∙ ap (found_or (option_map data_of (borrowed.get_member name ms)))
    (found_put name key (data_of j) found)
    ∙ later (bytes_eq key name) j (borrowed.get_member name ms) (get_member name found)

or_none : (o : Option Data) → found_or o None ≡ o
or_none None = refl
or_none (Some d) = refl

nothing_at : (name : List ℕ) (o : Option Num) → get name (number_seen o) ≡ None
nothing_at name None = refl
nothing_at name (Some n) = refl

pub member_seen : (name : List ℕ) (j : borrowed_json.Json)
    → option_map data_of (borrowed.get name j) ≡ get name (data_of j)
member_seen name (borrowed_json.number text) = sym (nothing_at name (number_of text))
member_seen name (borrowed_json.object ms) =
    sym (members_found name ms no_members ∙ or_none (option_map data_of (borrowed.get_member name ms)))
member_seen name j = refl

-- ---- the keys

pub and_regrouped : (a b c : Bool) → ((a && b) && c) ≡ (b && (a && c))
and_regrouped a b c = ap (λ t. t && c) (and_comm a b) ∙ and_assoc b a c

and_swapped : (a b c : Bool) → (a && (b && c)) ≡ (b && (a && c))
and_swapped a b c = sym (and_assoc a b c) ∙ and_regrouped a b c

and_twice : (a b : Bool) → (a && b) ≡ (a && (a && b))
and_twice true b = refl
and_twice false b = refl

keys_put_at : (test : List ℕ → Bool) (o : Ordering) (key l : List ℕ) (d e : Data) (ms : Members)
    → slice_cmp nat_cmp key l ≡ o
    → list_all test (keys_in (put key d ms)) ≡ (test key && list_all test (keys_in ms))
    → list_all test (keys_in (match_ordering o (member key d (member l e ms)) (member l d ms)
    (member l e (put key d ms)))) ≡ (test key && (test l && list_all test (keys_in ms)))
keys_put_at test Less key l d e ms is rest = refl
keys_put_at test Equal key l d e ms is rest =
    let same : key ≡ l =
    (bytes_eq-Decides key l).0 (sym (is_eq-slice_cmp key l) ∙ ap is_eq is) in
    and_twice (test l) (list_all test (keys_in ms))
    ∙ ap (λ k. test k && (test l && list_all test (keys_in ms))) (sym same)
keys_put_at test Greater key l d e ms is rest =
    ap (λ b. test l && b) rest ∙ and_swapped (test l) (test key) (list_all test (keys_in ms))

keys_put : (test : List ℕ → Bool) (key : List ℕ) (d : Data) (ms : Members)
    → list_all test (keys_in (put key d ms)) ≡ (test key && list_all test (keys_in ms))
keys_put test key d no_members = refl
keys_put test key d (member l e ms) =
    keys_put_at test (slice_cmp nat_cmp key l) key l d e ms refl (keys_put test key d ms)

abbrev pub Key : Type 0
Key = Bor (List ℕ)

abbrev pub Member : Type 0
Member = Key × Value Global

-- the members that are left begin with this one
pub front_of : (ms : List Member) (i : ℕ) (m : Member) → i < length ms → m ≡ get_or ms i m
    → drop i ms ≡ m ∷ drop (i + 1) ms
front_of ms i m within at = drop_more ms i m within ∙ ap (λ y. y ∷ drop (i + 1) ms) (sym at)

keys_of_all : (test : List ℕ → Bool) (ms : List Member) (found : Members)
    → (list_all (λ m. test m.0.now) ms && list_all test (keys_in found))
    ≡ list_all test (keys_in (members_put (views.members_view ms) found))
keys_of_all test [] found = refl
keys_of_all test (m ∷ ms) found =
    and_regrouped (test m.0.now) (list_all (λ m. test m.0.now) ms) (list_all test (keys_in found))
    ∙ ap (λ b. list_all (λ m. test m.0.now) ms && b)
    (sym (keys_put test m.0.now (data_of (views.value_view m.1)) found))
    ∙ keys_of_all test ms (put m.0.now (data_of (views.value_view m.1)) found)

-- each key passes the test where each key that is seen does
pub keys_seen : (test : List ℕ → Bool) (ms : List Member)
    → list_all (λ m. test m.0.now) ms
    ≡ list_all test (keys_in (members_put (views.members_view ms) no_members))
keys_seen test ms =
    sym (and-true (list_all (λ m. test m.0.now) ms)) ∙ keys_of_all test ms no_members

-- a test over a mapped list
pub list_any-map : {X Y : Type 0} (p : Y → Bool) (f : X → Y) (xs : List X)
    → list_any (λ x. p (f x)) xs ≡ list_any p (map f xs)
list_any-map p f [] = refl
list_any-map p f (x ∷ xs) = ap (λ b. p (f x) || b) (list_any-map p f xs)

same_tests : (keys : List Key) (ms : List Member)
    → list_all (λ m. list_any (λ known. bytes_eq known.now m.0.now) keys) ms
    ≡ list_all (λ m. is_one_of (map (λ key. key.now) keys) m.0.now) ms
same_tests keys [] = refl
same_tests keys (m ∷ ms) = ap₂ (λ a b. a && b)
    (list_any-map (λ known. bytes_eq known m.0.now) (λ (key : Key). key.now) keys)
    (same_tests keys ms)

-- each key is known where each key that is seen is
pub known_seen : (keys : List Key) (ms : List Member)
    → list_all (λ m. list_any (λ known. bytes_eq known.now m.0.now) keys) ms
    ≡ list_all (is_one_of (map (λ key. key.now) keys)) (keys_in (members_view ms))
known_seen keys ms = same_tests keys ms ∙ keys_seen (is_one_of (map (λ key. key.now) keys)) ms

-- ---- the slots

-- one more key is known, or not
pub known_step : (test : Member → Bool) (ms : List Member) (i : ℕ) (m : Member) (known is whole : Bool)
    → i < length ms → m ≡ get_or ms i m → is ≡ test m
    → (known && list_all test (drop i ms)) ≡ whole
    → ((is && known) && list_all test (drop (i + 1) ms)) ≡ whole
known_step test ms i m known is whole within at tested left =
    let rest = list_all test (drop (i + 1) ms) in
    ap (λ b. (b && known) && rest) tested
    ∙ and_regrouped (test m) known rest
    ∙ sym (ap (λ ys. known && list_all test ys) (front_of ms i m within at))
    ∙ left

-- ---- a reference to a value

pub reference_seen : (r : Option (Bor (Value Global)))
    → option_map (λ found. view found.now) r
    ≡ option_map data_of (option_map (λ found. views.value_view found.now) r)
reference_seen None = refl
reference_seen (Some v) = refl

-- ---- a negative number fits no unsigned integer

no_unsigned : (fits finite : Bool) (n f : Num)
    → as_u64 n ≡ None → as_u64 f ≡ None
    → option_and_then as_u64 (if fits then Some n else (if finite then Some f else None)) ≡ None
no_unsigned true finite n f first second = first
no_unsigned false true n f first second = second
no_unsigned false false n f first second = refl

pub never_unsigned : (p : Parts) → option_and_then as_u64 (number_from true p) ≡ None
never_unsigned p = no_unsigned
    (is_integer p && nat_lt 0 (digits_of p) && nat_le (digits_of p) (2 ^ 63))
    (float_is_finite (nearest binary64 true p)) (negative (with_sign true (digits_of p)))
    (float (nearest binary64 true p)) refl refl
