-- Entries and trees at numbers.
use Rattle.std.proofs.Common.{◌≡◌, ℕ, zero, suc, ◌+◌, ◌-◌, ◌<◌, ◌≤◌, List, [], ◌∷◌, ◌++◌, length, map, get_or, Option, Some, None, IsNone, IfSome, ◌↔◌, refl, ap, ◌∙◌, sym, subst, ⊎_elim, arith}
use Rattle.std.proofs.lemmas.Bool.{cases_lt}
use Rattle.std.specs.List.{range_with_len}
use Rattle.std.proofs.lemmas.List.{get_or_at, get_or-map, append_assoc, length-append, length-map}
use Rattle.cc_command.specs.Tree.{Tree}
use Rattle.cc_generator.specs.declared.flat.FlatNode.{FlatNode}
use Rattle.cc_generator.specs.Flat.{Entry, no_entry, entry_of, entries_of, entry_at, tree_at, trees_at, numbers_between, IsChildAt, HasItsParent, IsFlat}
use Rattle.cc_generator.specs.Numbered.{without_numbers}

-- lists that agree at some numbers have the same trees there
pub trees_at-agree : (xs ys : List Entry) (first count : ℕ) → ((number : ℕ) → first ≤ number → number < first + count → tree_at xs number ≡ tree_at ys number) →
    trees_at xs (range_with_len first count) ≡ trees_at ys (range_with_len first count)
trees_at-agree xs ys first zero agree = refl
trees_at-agree xs ys first (suc count) agree =
    ap (λ tree. tree ∷ trees_at xs (range_with_len (first + 1) count)) (agree first (omega arith) (omega arith)) ∙
    ap (λ trees. tree_at ys first ∷ trees) (trees_at-agree xs ys (first + 1) count (λ number low high. agree number (omega arith) (omega arith)))

-- the trees of nodes that are listed after all others
pub trees_at-appended : (flat : List Entry) (parent : Option ℕ) (trees : List Tree) →
    trees_at (flat ++ map (without_numbers parent) trees) (range_with_len (length flat) (length trees)) ≡ trees
trees_at-appended flat parent [] = refl
trees_at-appended flat parent (tree ∷ trees) =
    let first : Entry = without_numbers parent tree in
    let longer : List Entry = flat ++ first ∷ [] in
    let regrouped : longer ++ map (without_numbers parent) trees ≡ flat ++ (first ∷ map (without_numbers parent) trees) = append_assoc flat (first ∷ []) (map (without_numbers parent) trees) in
    let here : tree_at (flat ++ (first ∷ map (without_numbers parent) trees)) (length flat) ≡ tree =
    ap (λ entry. entry.tree) (get_or_at flat first (map (without_numbers parent) trees) _ (length flat) refl) in
    let rest : trees_at (longer ++ map (without_numbers parent) trees) (range_with_len (length longer) (length trees)) ≡ trees = trees_at-appended longer parent trees in
    let next : length longer ≡ length flat + 1 = length-append flat (first ∷ []) in
    ap (λ t. t ∷ trees_at (flat ++ (first ∷ map (without_numbers parent) trees)) (range_with_len (length flat + 1) (length trees))) here ∙
    ap (λ ts. tree ∷ ts) (ap (λ n. trees_at (flat ++ (first ∷ map (without_numbers parent) trees)) (range_with_len n (length trees))) (sym next) ∙
    ap (λ all. trees_at all (range_with_len (length longer) (length trees))) (sym regrouped) ∙ rest)

-- the facts that a stored node records
pub entry_at-stored : (nodes : List FlatNode) (number : ℕ) (node : FlatNode) → number < length nodes → node ≡ get_or nodes number node → entry_at (entries_of nodes) number ≡ entry_of node
entry_at-stored nodes number node inside is = get_or-map entry_of nodes number node no_entry inside ∙ ap entry_of (sym is)

-- the next number comes first
pub numbers_between_first : (start end : ℕ) → start < end → numbers_between start end ≡ start ∷ numbers_between (start + 1) end
numbers_between_first start end low =
    let one_less : end - start ≡ suc (end - (start + 1)) = omega arith in ap (range_with_len start) one_less

-- every node except the root has a parent, which comes before it and has it as a child
abbrev pub HasParentOrNone : List Entry → ℕ → Option ℕ → Type 0
HasParentOrNone flat number None = number ≡ 0
HasParentOrNone flat number (Some parent) = (0 < number) × ((parent < number) × IsChildAt flat parent number)

pub HasParentOrNone-at : (flat : List Entry) (number : ℕ) → IsFlat flat → number < length flat → HasParentOrNone flat number (entry_at flat number).parent
HasParentOrNone-at flat number is_flat inside =
    let P : Option ℕ → Type 0 = HasParentOrNone flat number in
    ⊎_elim
    (λ later. let its : HasItsParent flat number = is_flat.parents number later inside in
    subst P (sym its.is) (later, (its.before, its.child)))
    (λ first. let zero_is : number ≡ 0 = omega arith in
    let none_is : (entry_at flat number).parent ≡ None = ap (λ n. (entry_at flat n).parent) zero_is ∙ is_flat.root in subst P (sym none_is) zero_is)
    (cases_lt 0 number)

pub HasParentOrNone-stored : (flat : List Entry) (nodes : List FlatNode) (number : ℕ) (node : FlatNode) → entries_of nodes ≡ flat → IsFlat (entries_of nodes) → number < length flat →
    node ≡ get_or nodes number node → HasParentOrNone flat number node.parent
HasParentOrNone-stored flat nodes number node same is_flat inside is =
    let within : number < length nodes = omega (arith, length-map nodes entry_of, ap length same) in
    let here : (entry_at flat number).parent ≡ node.parent =
    ap (λ entries. (entry_at entries number).parent) (sym same) ∙ ap (λ e. e.parent) (entry_at-stored nodes number node within is) in
    let P : Option ℕ → Type 0 = HasParentOrNone flat number in
    subst P here (HasParentOrNone-at flat number (subst IsFlat same is_flat) inside)

-- only the root has no parent
pub root-parent : (flat : List Entry) (number : ℕ) (parent : Option ℕ) → HasParentOrNone flat number parent → IsNone parent ↔ (number ≡ 0)
root-parent flat number None first = ((λ _. first), (λ _. refl))
root-parent flat number (Some parent) is = ((λ none. cc), (λ first. absurd (omega (arith, is.0))))

-- a parent comes before its children
pub before-parent : (flat : List Entry) (number : ℕ) (parent : Option ℕ) → HasParentOrNone flat number parent → IfSome parent (λ p. p < number)
before-parent flat number None _ = tt
before-parent flat number (Some parent) is = is.1.0

-- a node is a child of its parent
pub child-parent : (flat : List Entry) (number : ℕ) (parent : Option ℕ) → HasParentOrNone flat number parent → IfSome parent (λ p. IsChildAt flat p number)
child-parent flat number None _ = tt
child-parent flat number (Some parent) is = is.1.1
