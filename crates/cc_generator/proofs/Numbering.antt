-- The invariant of the numbering of a tree, which handles one node after another.
use Rattle.std.proofs.Common.{◌≡◌, ◌≢◌, ℕ, ◌+◌, ◌-◌, ◌<◌, ◌≤◌, List, [], ◌∷◌, ◌++◌, length, map, get_or, set, drop, Option, Some, None, refl, ap, ◌∙◌, sym, arith, ⊎_elim, subst}
use Rattle.std.specs.List.{range_with_len}
use Rattle.std.proofs.lemmas.List.{get_or-map, map-set, map-append, length-map, length-set, length-append, get_or-set_same, get_or-set_other, get_or_append_left, get_or-append_right, drop_more, drop_all, drop-append-le, drop-set-lt}
use Rattle.std.proofs.lemmas.Bool.{cases_eq, cases_lt}
use Rattle.cc_command.specs.Tree.{Tree, forest_of, forest_size}
use Rattle.cc_command.specs.Made.{new_tree}
use Rattle.cc_generator.specs.declared.flat.FlatNode.{FlatNode}
use Rattle.cc_generator.specs.Flat.{Entry, entry_of, entries_of, no_entry, entry_at, tree_at, trees_at, children_at, trees_of, HasItsChildren, HasItsParent, IsFlat}
use Rattle.cc_generator.specs.Numbered.{without_numbers, with_count, with_children}
use Rattle.cc_generator.proofs.Numbers.{entry_at-stored, trees_at-agree, trees_at-appended}
use Rattle.cc_generator.proofs.Trees.{forest_of-trees_of, forest_size-append}

-- the entry of a stored node after its children get numbers
pub with_count-stored : (nodes : List FlatNode) (number : ℕ) (node : FlatNode) (first count : ℕ) →
    number < length nodes → node ≡ get_or nodes number node → first ≡ length nodes →
    entries_of (set nodes number (record node { first_child = first; child_count = count })) ≡ with_count (entries_of nodes) number count
with_count-stored nodes number node first count inside is end =
    let here : entry_at (entries_of nodes) number ≡ entry_of node = entry_at-stored nodes number node inside is in
    let later : first ≡ length (entries_of nodes) = end ∙ sym (length-map nodes entry_of) in
    map-set entry_of nodes number (record node { first_child = first; child_count = count }) ∙
    ap (λ f. set (entries_of nodes) number (record (entry_of node) { first_child = f; child_count = count })) later ∙
    ap (λ e. set (entries_of nodes) number (record e { first_child = length (entries_of nodes); child_count = count })) (sym here)

-- the tree of a stored node
pub tree_at-stored : (nodes : List FlatNode) (number : ℕ) (node : FlatNode) → number < length nodes → node ≡ get_or nodes number node →
    tree_at (entries_of nodes) number ≡ node.command.now
tree_at-stored nodes number node inside is = ap (λ e. e.tree) (entry_at-stored nodes number node inside is)

-- the trees of the list from a number on
abbrev trees_from : ℕ → List Entry → List Tree
trees_from number flat = map (λ entry. entry.tree) (drop number flat)

-- the node with a number is a child of an earlier node, whose children have numbers
pub record HasDoneParent (flat : List Entry) (done number : ℕ) : Type 0 where
  pub parent : HasItsParent flat number
  pub is_done : parent.parent < done

-- the list is that of a tree, except that the nodes from a number on have no children yet
pub record IsFlatUpTo (root : Tree) (done : ℕ) (flat : List Entry) : Type 0 where
  pub within : done ≤ length flat
  pub inhabited : 0 < length flat
  pub root_tree : tree_at flat 0 ≡ root
  pub root_parent : (entry_at flat 0).parent ≡ None
  pub size : done + forest_size (forest_of (trees_from done flat)) ≡ 1 + forest_size root.children
  pub children : (number : ℕ) → number < done → HasItsChildren flat number
  pub parents : (number : ℕ) → 0 < number → number < length flat → HasDoneParent flat done number

-- a whole list
pub IsFlat-whole : (root : Tree) (done : ℕ) (flat : List Entry) → IsFlatUpTo root done flat → length flat ≤ done → IsFlat flat
IsFlat-whole root done flat up_to whole =
    let all : done ≡ length flat = omega (arith, up_to.within) in
    let nothing : forest_size (forest_of (trees_from done flat)) ≡ 0 = ap (λ rest. forest_size (forest_of (map (λ entry. entry.tree) rest))) (drop_all done flat whole) in
    let of_root : forest_size (tree_at flat 0).children ≡ forest_size root.children = ap (λ tree. forest_size tree.children) up_to.root_tree in
    record {
      root = up_to.root_parent;
      size = omega (arith, up_to.size);
      children = λ number low. up_to.children number (omega arith);
      parents = λ number low high. (up_to.parents number low high).parent;
    }

-- a longer list that keeps the tree and the parent of each node of a shorter one
pub record Extends (xs ys : List Entry) : Type 0 where
  pub longer : length xs ≤ length ys
  pub tree : (number : ℕ) → number < length xs → tree_at ys number ≡ tree_at xs number
  pub parent : (number : ℕ) → number < length xs → (entry_at ys number).parent ≡ (entry_at xs number).parent

-- a node keeps its children if the list is extended and the node's numbers stay
HasItsChildren-kept : (xs ys : List Entry) (number : ℕ) → Extends xs ys → number < length xs → entry_at ys number ≡ entry_at xs number → HasItsChildren xs number → HasItsChildren ys number
HasItsChildren-kept xs ys number extends inside same its =
    let first : (entry_at ys number).first_child ≡ (entry_at xs number).first_child = ap (λ e. e.first_child) same in
    let count : (entry_at ys number).child_count ≡ (entry_at xs number).child_count = ap (λ e. e.child_count) same in
    let numbers : children_at ys number ≡ children_at xs number = ap (λ e. range_with_len e.first_child e.child_count) same in
    let trees : trees_at ys (children_at xs number) ≡ trees_at xs (children_at xs number) =
    trees_at-agree ys xs (entry_at xs number).first_child (entry_at xs number).child_count
    (λ child low high. extends.tree child (omega (arith, its.within))) in
    record {
      forest = ap (λ ns. forest_of (trees_at ys ns)) numbers ∙ ap forest_of trees ∙ its.forest ∙ ap (λ e. e.tree.children) (sym same);
      after = omega (arith, first, its.after);
      within = omega (arith, first, count, its.within, extends.longer);
      parent = λ child is.
          let low : (entry_at xs number).first_child ≤ child = omega (arith, first, is.low) in
          let high : child < (entry_at xs number).first_child + (entry_at xs number).child_count = omega (arith, first, count, is.high) in
          extends.parent child (omega (arith, its.within)) ∙ its.parent child (record { low = low; high = high });
    }

-- the trees of nodes whose children have no numbers yet
trees-without_numbers : (parent : Option ℕ) (trees : List Tree) → map (λ entry. entry.tree) (map (without_numbers parent) trees) ≡ trees
trees-without_numbers parent [] = refl
trees-without_numbers parent (tree ∷ trees) = ap (λ rest. tree ∷ rest) (trees-without_numbers parent trees)

-- ---- one more node

module _ (flat : List Entry) (number : ℕ) (trees : List Tree) (inside : number < length flat) where
  with_count-length : length (with_count flat number (length trees)) ≡ length flat
  with_count-length = length-set flat number (record (entry_at flat number) { first_child = length flat; child_count = length trees })

  with_children-length : length (with_children flat number trees) ≡ length flat + length trees
  with_children-length =
      omega (arith, length-append (with_count flat number (length trees)) (map (without_numbers (Some number)) trees), with_count-length, length-map trees (without_numbers (Some number)))

  -- the node itself
  with_children-here : entry_at (with_children flat number trees) number ≡ record (entry_at flat number) { first_child = length flat; child_count = length trees }
  with_children-here =
      get_or_append_left (with_count flat number (length trees)) (map (without_numbers (Some number)) trees) _ number (omega (arith, with_count-length)) ∙
      get_or-set_same flat number (record (entry_at flat number) { first_child = length flat; child_count = length trees }) _ inside

  -- the other nodes that were listed before
  with_children-other : (other : ℕ) → other < length flat → other ≢ number → entry_at (with_children flat number trees) other ≡ entry_at flat other
  with_children-other other low differs =
      get_or_append_left (with_count flat number (length trees)) (map (without_numbers (Some number)) trees) _ other (omega (arith, with_count-length)) ∙
      get_or-set_other flat number other (record (entry_at flat number) { first_child = length flat; child_count = length trees }) _ differs

  -- its children
  with_children-child : (child : ℕ) → length flat ≤ child → child < length flat + length trees → (entry_at (with_children flat number trees) child).parent ≡ Some number
  with_children-child child low high =
      ap (λ e. e.parent) (
      get_or-append_right (with_count flat number (length trees)) (map (without_numbers (Some number)) trees) (length flat) child _ with_count-length low ∙
      get_or-map (without_numbers (Some number)) trees (child - length flat) (new_tree []) _ (omega arith))

  with_children-extends : Extends flat (with_children flat number trees)
  with_children-extends = record {
    longer = omega (arith, with_children-length);
    tree = λ other low. ⊎_elim
        (λ same. ap (λ n. tree_at (with_children flat number trees) n) same ∙ ap (λ e. e.tree) with_children-here ∙ ap (tree_at flat) (sym same))
        (λ differs. ap (λ e. e.tree) (with_children-other other low differs)) (cases_eq other number);
    parent = λ other low. ⊎_elim
        (λ same. ap (λ n. (entry_at (with_children flat number trees) n).parent) same ∙ ap (λ e. e.parent) with_children-here ∙ ap (λ n. (entry_at flat n).parent) (sym same))
        (λ differs. ap (λ e. e.parent) (with_children-other other low differs)) (cases_eq other number);
  }

  -- the node has its children
  with_children-children : trees ≡ trees_of (tree_at flat number).children → HasItsChildren (with_children flat number trees) number
  with_children-children theirs =
      let all : List Entry = with_children flat number trees in
      let first : (entry_at all number).first_child ≡ length flat = ap (λ e. e.first_child) with_children-here in
      let count : (entry_at all number).child_count ≡ length trees = ap (λ e. e.child_count) with_children-here in
      let numbers : children_at all number ≡ range_with_len (length (with_count flat number (length trees))) (length trees) =
      ap (λ e. range_with_len e.first_child e.child_count) with_children-here ∙ ap (λ n. range_with_len n (length trees)) (sym with_count-length) in
      record {
        forest =
            ap (λ ns. forest_of (trees_at all ns)) numbers ∙
            ap forest_of (trees_at-appended (with_count flat number (length trees)) (Some number) trees) ∙
            ap forest_of theirs ∙ forest_of-trees_of (tree_at flat number).children ∙
            ap (λ e. e.tree.children) (sym with_children-here);
        after = omega (arith, first);
        within = omega (arith, first, count, with_children-length);
        parent = λ child is. with_children-child child (omega (arith, first, is.low)) (omega (arith, first, count, is.high));
      }

  -- the number of nodes that are still without a number
  with_children-size : trees ≡ trees_of (tree_at flat number).children →
      number + 1 + forest_size (forest_of (trees_from (number + 1) (with_children flat number trees))) ≡ number + forest_size (forest_of (trees_from number flat))
  with_children-size theirs =
      let counted : List Entry = with_count flat number (length trees) in
      let listed : List Entry = map (without_numbers (Some number)) trees in
      let later : drop (number + 1) (with_children flat number trees) ≡ drop (number + 1) counted ++ listed =
      drop-append-le (number + 1) counted listed (omega (arith, with_count-length)) in
      let same : drop (number + 1) counted ≡ drop (number + 1) flat =
      drop-set-lt (number + 1) flat number (record (entry_at flat number) { first_child = length flat; child_count = length trees }) (omega arith) in
      let later : trees_from (number + 1) (with_children flat number trees) ≡ trees_from (number + 1) flat ++ trees =
      ap (map (λ entry. entry.tree)) (later ∙ ap (λ entries. entries ++ listed) same) ∙
      map-append (λ entry. entry.tree) (drop (number + 1) flat) listed ∙
      ap (λ ts. trees_from (number + 1) flat ++ ts) (trees-without_numbers (Some number) trees) in
      let now : trees_from number flat ≡ tree_at flat number ∷ trees_from (number + 1) flat =
      ap (map (λ entry. entry.tree)) (drop_more flat number no_entry inside) in
      let below : forest_of trees ≡ (tree_at flat number).children = ap forest_of theirs ∙ forest_of-trees_of (tree_at flat number).children in
      omega (
        arith,
        ap (λ ts. forest_size (forest_of ts)) later,
        forest_size-append (trees_from (number + 1) flat) trees,
        ap (λ ts. forest_size (forest_of ts)) now,
        ap forest_size below,
      )

  -- a node that was listed before keeps its parent
  HasDoneParent-kept : (child : ℕ) → child < length flat → HasDoneParent flat number child → HasDoneParent (with_children flat number trees) (number + 1) child
  HasDoneParent-kept child listed known =
      let parent : ℕ = known.parent.parent in
      let same : entry_at (with_children flat number trees) parent ≡ entry_at flat parent =
      with_children-other parent (omega (arith, known.is_done)) (omega (arith, known.is_done)) in
      record {
        parent = record {
          parent = parent;
          is = with_children-extends.parent child listed ∙ known.parent.is;
          before = known.parent.before;
          child = record {
            low = omega (arith, ap (λ e. e.first_child) same, known.parent.child.low);
            high = omega (arith, ap (λ e. e.first_child) same, ap (λ e. e.child_count) same, known.parent.child.high);
          };
        };
        is_done = omega (arith, known.is_done);
      }

  -- the children have the node as their parent
  HasDoneParent-new : (child : ℕ) → length flat ≤ child → child < length flat + length trees → HasDoneParent (with_children flat number trees) (number + 1) child
  HasDoneParent-new child low high = record {
    parent = record {
      parent = number;
      is = with_children-child child low high;
      before = omega arith;
      child = record {
        low = omega (arith, ap (λ e. e.first_child) with_children-here);
        high = omega (arith, ap (λ e. e.first_child) with_children-here, ap (λ e. e.child_count) with_children-here);
      };
    };
    is_done = omega arith;
  }

-- one more node is numbered
pub IsFlatUpTo-more : (root : Tree) (number : ℕ) (flat : List Entry) → IsFlatUpTo root number flat → number < length flat →
    IsFlatUpTo root (number + 1) (with_children flat number (trees_of (tree_at flat number).children))
IsFlatUpTo-more root number flat up_to inside =
    let trees : List Tree = trees_of (tree_at flat number).children in
    let all : List Entry = with_children flat number trees in
    let extends : Extends flat all = with_children-extends flat number trees inside in
    let kept : (other : ℕ) → other < number → HasItsChildren all other =
    λ other low. HasItsChildren-kept flat all other extends (omega arith) (with_children-other flat number trees inside other (omega arith) (omega arith)) (up_to.children other low) in
    let here : HasItsChildren all number = with_children-children flat number trees inside refl in
    record {
      within = omega (arith, with_children-length flat number trees inside);
      inhabited = omega (arith, with_children-length flat number trees inside);
      root_tree = extends.tree 0 up_to.inhabited ∙ up_to.root_tree;
      root_parent = extends.parent 0 up_to.inhabited ∙ up_to.root_parent;
      size = with_children-size flat number trees inside refl ∙ up_to.size;
      children = λ other low. ⊎_elim (λ below. kept other below) (λ above. let same : number ≡ other = omega arith in let P : ℕ → Type 0 = λ n. HasItsChildren all n in subst P same here) (cases_lt other number);
      parents = λ child low high. ⊎_elim
          (λ listed. HasDoneParent-kept flat number trees inside child listed (up_to.parents child low listed))
          (λ new. HasDoneParent-new flat number trees inside child new (omega (arith, with_children-length flat number trees inside)))
          (cases_lt child (length flat));
    }
