-- The position at which a search from the end finds a text.
use Rattle.std.proofs.Common.{◌≡◌, ap, refl, ℕ, zero, suc, ◌+◌, ◌<◌, ◌≤◌, List, [], ◌∷◌, ◌++◌, length, drop, Bool, true, false, nat_eq, if◌then◌else◌, Some, None, arith, length-append}
use Rattle.std.specs.Option.{option_map, option_or}
use Rattle.std.specs.List.{starts_with}
use Rattle.std.proofs.lemmas.Bool.Decides.{Decides-eqb}
use Rattle.std.proofs.lemmas.Slice.Eq.{starts_is}
use Rattle.std.specs.Str.Pattern.{LacksTextAt, RFindsText}
use Rattle.cc_engine.specs.Parts.{last_position, through}

-- a text that begins with another is the other followed by a rest
pub begins_so : (text sought : List ℕ) → starts_with nat_eq text sought ≡ true → (rest : List ℕ) × (text ≡ sought ++ rest)
begins_so text sought is = (drop (length sought) text, (starts_is Decides-eqb text sought (starts_with nat_eq text sought) refl).0 is)

pub so_begins : (text sought rest : List ℕ) → text ≡ sought ++ rest → starts_with nat_eq text sought ≡ true
so_begins text sought rest is = (starts_is Decides-eqb text sought (starts_with nat_eq text sought) refl).1 rest is

begins_not : (text sought : List ℕ) → LacksTextAt sought text 0 → (b : Bool) → starts_with nat_eq text sought ≡ b → b ≡ false
begins_not text sought lacks true is = let found = begins_so text sought is in absurd (lacks found.0 found.1)
begins_not text sought lacks false is = refl

pub last_position_none : (sought text : List ℕ) → ((i : ℕ) → i ≤ length text → LacksTextAt sought text i) → last_position sought text ≡ None
last_position_none sought [] lacks = refl
last_position_none sought (byte ∷ bytes) lacks =
    (λ k. option_or (option_map suc (last_position_none sought bytes (λ i below. lacks (suc i) (omega arith)) k)) (if begins_not (byte ∷ bytes) sought (lacks 0 (omega arith)) _ refl k then Some 0 else None))

pub last_position_some : (sought text rest : List ℕ) (position : ℕ) → 0 < length sought → ((i : ℕ) → position < i → i ≤ length text → LacksTextAt sought text i) → drop position text ≡ sought ++ rest → last_position sought text ≡ Some position
last_position_some sought [] rest zero some lacks is = absurd (omega (arith, ap length is, length-append sought rest))
last_position_some sought [] rest (suc position) some lacks is = absurd (omega (arith, ap length is, length-append sought rest))
last_position_some sought (byte ∷ bytes) rest zero some lacks is =
    (λ k. option_or (option_map suc (last_position_none sought bytes (λ i below. lacks (suc i) (omega arith) (omega arith)) k)) (if so_begins (byte ∷ bytes) sought rest is k then Some 0 else None))
last_position_some sought (byte ∷ bytes) rest (suc position) some lacks is =
    (λ k. option_or (option_map suc (last_position_some sought bytes rest position some (λ i above below. lacks (suc i) (omega arith) (omega arith)) is k)) (if starts_with nat_eq (byte ∷ bytes) sought then Some 0 else None))

pub through_none : (sought text : List ℕ) → ((i : ℕ) → i ≤ length text → LacksTextAt sought text i) → through sought (last_position sought text) ≡ 0
through_none sought text lacks = ap (through sought) (last_position_none sought text lacks)

pub through_some : (sought text : List ℕ) (position end : ℕ) → 0 < length sought → RFindsText sought text (Some (position, end)) → through sought (last_position sought text) ≡ position + length sought
through_some sought text position end some finds = ap (through sought) (last_position_some sought text (drop end text) position some finds.0 finds.1.split)
