-- The remaining visits in table order, as items are taken from the stack and put on it.
use Rattle.std.proofs.Common.{◌≡◌, ℕ, zero, suc, ◌+◌, ◌-◌, ◌<◌, ◌≤◌, List, [], ◌∷◌, ◌++◌, length, reverse, refl, ap, ◌∙◌, sym, subst, append_assoc, append-nil, arith, Some}
use Rattle.std.specs.List.{flat_map, range_with_len, All}
use Rattle.std.proofs.lemmas.List.{nil_from_length, length-append, length-reverse, reverse-append, reverse-reverse}
use Rattle.std.proofs.lemmas.List.Concat.{flat_map-append}
use Rattle.std.proofs.lemmas.List.Folds.{flat_map-map}
use Rattle.std.proofs.lemmas.List.Elements.{All-nil, All-pop, All-append, All-map}
use Rattle.std.proofs.lemmas.List.Sorted.{All-permutation, IsPermutation-reverse}
use Rattle.cc_command.specs.declared.node.Node.{Node}
use Rattle.cc_command.specs.Tree.{Tree, forest_of}
use Rattle.cc_generator.specs.Flat.{Entry, HasItsChildren, children_at, entry_at, numbers_between, tree_at, trees_at}
use Rattle.cc_generator.specs.Stack.{from_stack}
use Rattle.cc_generator.specs.TableStack.{AreListed, IsListed, item_at, items_at, table_items, tables_of}
use Rattle.cc_generator.specs.Visits.{keyed, keys_below, tables_below, tables_from, table_visits, under_each}
use Rattle.cc_generator.specs.declared.table_visits.TableItem.{TableItem}
use Rattle.cc_generator.proofs.FromStack.{from_stack_none, from_stack_popped, from_stack_pushed}

-- ---- items whose numbers are within the list

module _ (flat : List Entry) (stack rest : List TableItem) (item : TableItem) (popped : stack ≡ rest ++ item ∷ []) where
  -- the other items of a stack
  pub AreListed_rest : AreListed flat stack → AreListed flat rest
  unfolding AreListed
  AreListed_rest listed = (All-pop (IsListed flat) stack rest (Some item) popped listed).0

  -- the item on top
  pub AreListed_top : AreListed flat stack → item.number < length flat
  unfolding AreListed
  AreListed_top listed = (All-pop (IsListed flat) stack rest (Some item) popped listed).1.0

  pub AreListed_above : AreListed flat stack → item.above < length flat
  unfolding AreListed
  AreListed_above listed = (All-pop (IsListed flat) stack rest (Some item) popped listed).1.1

module _ (flat : List Entry) (keys : List (List ℕ)) (above : ℕ) (is_listed : above < length flat) where
  AreListed-range : (first count : ℕ) → first + count ≤ length flat → All (IsListed flat) (table_items above keys (range_with_len first count))
  AreListed-range first zero within = All-nil (IsListed flat)
  AreListed-range first (suc count) within =
      All-append (IsListed flat) (items_at above first keys) (table_items above keys (range_with_len (first + 1) count))
      (All-map (IsListed flat) (item_at above first) keys (λ i d k. (omega arith, is_listed)))
      (AreListed-range (first + 1) count (omega arith))

  -- the items of a node's children
  pub table_listed : (rest items new : List TableItem) → HasItsChildren flat above →
      items ≡ table_items above keys (children_at flat above) → new ≡ rest ++ reverse items → AreListed flat rest → AreListed flat new
  unfolding AreListed
  table_listed rest items new its are pushed listed =
      let P : List TableItem → Type 0 = All (IsListed flat) in
      subst P (sym pushed) (All-append (IsListed flat) rest (reverse items) listed
      (All-permutation (IsListed flat) items (reverse items) (IsPermutation-reverse items)
      (subst P (sym are) (AreListed-range (entry_at flat above).first_child (entry_at flat above).child_count its.within))))

  -- the items of the root's children alone
  pub tables_listed : (items stack : List TableItem) → HasItsChildren flat above →
      items ≡ table_items above keys (children_at flat above) → stack ≡ reverse items → AreListed flat stack
  unfolding AreListed
  tables_listed items stack its are reversed = table_listed [] items stack its are reversed (All-nil (IsListed flat))

-- a node without children has no items
pub no_items : (above : ℕ) (keys : List (List ℕ)) (start end : ℕ) (numbers : List ℕ) → start ≡ end →
    numbers_between start end ≡ numbers → [] ≡ table_items above keys numbers
no_items above keys start end numbers none is =
    let no_more : 0 ≡ end - start = omega arith in
    ap (λ n. table_items above keys (range_with_len start n)) no_more ∙ ap (table_items above keys) is

-- ---- the remaining visits

module _ (flat : List Entry) (child_key : List ℕ → List ℕ → List ℕ) where
  abbrev node_at : ℕ → Node
  node_at number = (tree_at flat number).node

  tables_of-items : (above : ℕ) (keys : List (List ℕ)) (numbers : List ℕ) →
      flat_map (tables_of flat child_key) (table_items above keys numbers) ≡ tables_below child_key keys (node_at above) (forest_of (trees_at flat numbers))
  unfolding tables_below
  tables_of-items above keys [] = refl
  tables_of-items above keys (number ∷ numbers) =
      flat_map-append (tables_of flat child_key) (items_at above number keys) (table_items above keys numbers) ∙
      ap (λ t. t ++ flat_map (tables_of flat child_key) (table_items above keys numbers)) (flat_map-map (tables_of flat child_key) (item_at above number) keys) ∙
      ap (λ t. flat_map (λ key. tables_from child_key key (node_at above) (tree_at flat number)) keys ++ t) (tables_of-items above keys numbers)

  -- the nodes below a node are put on the stack
  tables-pushed : (number : ℕ) (keys : List (List ℕ)) (rest items new : List TableItem) → HasItsChildren flat number →
      items ≡ table_items number keys (children_at flat number) → new ≡ rest ++ reverse items →
      from_stack (tables_of flat child_key) new ≡ tables_below child_key keys (node_at number) (tree_at flat number).children ++ from_stack (tables_of flat child_key) rest
  tables-pushed number keys rest items new its are pushed =
      let from_item = tables_of flat child_key in
      ap (from_stack from_item) pushed ∙ from_stack_pushed from_item rest items ∙
      ap (λ t. t ++ from_stack from_item rest)
      (ap (flat_map from_item) are ∙ tables_of-items number keys (children_at flat number) ∙ ap (tables_below child_key keys (node_at number)) its.forest)

  -- a child is taken from the stack: its visits come first, and the nodes below it are put on the
  -- stack
  table-step : (number above : ℕ) (key : List ℕ) (keys : List (List ℕ)) (old rest items new : List TableItem) → HasItsChildren flat number →
      old ≡ rest ++ item_at above number key ∷ [] → keys ≡ keys_below child_key key (node_at number) →
      items ≡ table_items number keys (children_at flat number) → new ≡ rest ++ reverse items →
      from_stack (tables_of flat child_key) old ≡ under_each keys (node_at above) (tree_at flat number) ++ from_stack (tables_of flat child_key) new
  table-step number above key keys old rest items new its popped keys_are are pushed =
      let from_item = tables_of flat child_key in
      let tree : Tree = tree_at flat number in
      ap (from_stack from_item) popped ∙ from_stack_popped from_item rest (item_at above number key) ∙
      ap (λ ks. (under_each ks (node_at above) tree ++ tables_below child_key ks tree.node tree.children) ++ from_stack from_item rest) (sym keys_are) ∙
      append_assoc (under_each keys (node_at above) tree) (tables_below child_key keys tree.node tree.children) (from_stack from_item rest) ∙
      ap (λ t. under_each keys (node_at above) tree ++ t) (sym (tables-pushed number keys rest items new its are pushed))

  -- the root under its key, then everything below it
  pub tables_begin : (key : List ℕ) (keys : List (List ℕ)) (items stack : List TableItem) → HasItsChildren flat 0 → keys ≡ key ∷ [] →
      items ≡ table_items 0 keys (children_at flat 0) → stack ≡ reverse items →
      under_each (reverse keys) (node_at 0) (tree_at flat 0) ++ from_stack (tables_of flat child_key) stack ≡ table_visits child_key key (tree_at flat 0)
  tables_begin key keys items stack its keys_are are reversed =
      ap (λ t. under_each (reverse keys) (node_at 0) (tree_at flat 0) ++ t) (tables-pushed 0 keys [] items stack its are reversed ∙
      ap (λ t. tables_below child_key keys (node_at 0) (tree_at flat 0).children ++ t) (from_stack_none (tables_of flat child_key) [] refl) ∙
      append-nil (tables_below child_key keys (node_at 0) (tree_at flat 0).children)) ∙
      ap (λ ks. under_each (reverse ks) (node_at 0) (tree_at flat 0) ++ tables_below child_key ks (node_at 0) (tree_at flat 0).children) keys_are

  -- neither keys nor nodes remain
  pub tables_end : (number above : ℕ) (ready : List (List ℕ)) (stack : List TableItem) → length ready ≡ 0 → length stack ≡ 0 →
      under_each (reverse ready) (node_at above) (tree_at flat number) ++ from_stack (tables_of flat child_key) stack ≡ []
  tables_end number above ready stack no_keys no_items =
      ap (λ ks. under_each (reverse ks) (node_at above) (tree_at flat number) ++ from_stack (tables_of flat child_key) stack) (nil_from_length ready no_keys) ∙
      from_stack_none (tables_of flat child_key) stack no_items

  -- the key at the end is the first one to be taken
  taken_first : (first : List ℕ) (ready left : List (List ℕ)) → ready ≡ left ++ first ∷ [] →
      reverse ready ≡ first ∷ reverse left
  taken_first first ready left taken = ap (λ ks. reverse ks) taken ∙ reverse-append left (first ∷ [])

  -- the node that is being visited has another key
  pub table_later : (number above : ℕ) (first : List ℕ) (ready left : List (List ℕ)) (stack : List TableItem) →
      ready ≡ left ++ first ∷ [] →
      under_each (reverse ready) (node_at above) (tree_at flat number) ++ from_stack (tables_of flat child_key) stack
      ≡ keyed first (node_at above) (tree_at flat number) ∷ (under_each (reverse left) (node_at above) (tree_at flat number) ++ from_stack (tables_of flat child_key) stack)
  table_later number above first ready left stack taken =
      ap (λ ks. under_each ks (node_at above) (tree_at flat number) ++ from_stack (tables_of flat child_key) stack) (taken_first first ready left taken)

  -- no key remains, so the first key of the next node comes
  pub table_next : (before above_before number above : ℕ) (key first : List ℕ) (done empty keys left : List (List ℕ))
      (old rest items new : List TableItem) → length done ≡ 0 → length empty ≡ 0 → HasItsChildren flat number →
      old ≡ rest ++ item_at above number key ∷ [] → keys ≡ empty ++ keys_below child_key key (node_at number) →
      items ≡ table_items number keys (children_at flat number) → new ≡ rest ++ reverse items → reverse keys ≡ left ++ first ∷ [] →
      under_each (reverse done) (node_at above_before) (tree_at flat before) ++ from_stack (tables_of flat child_key) old
      ≡ keyed first (node_at above) (tree_at flat number) ∷ (under_each (reverse left) (node_at above) (tree_at flat number) ++ from_stack (tables_of flat child_key) new)
  table_next before above_before number above key first done empty keys left old rest items new no_keys is_empty its popped keys_are are pushed taken =
      let from_item = tables_of flat child_key in
      let first_is : keys ≡ first ∷ reverse left = sym (reverse-reverse keys) ∙ taken_first first (reverse keys) left taken in
      ap (λ ks. under_each (reverse ks) (node_at above_before) (tree_at flat before) ++ from_stack from_item old) (nil_from_length done no_keys) ∙
      table-step number above key keys old rest items new its popped (keys_are ∙ ap (λ ks. ks ++ keys_below child_key key (node_at number)) (nil_from_length empty is_empty)) are pushed ∙
      ap (λ ks. under_each ks (node_at above) (tree_at flat number) ++ from_stack from_item new) first_is

  -- a node has a key
  pub some_key : (number : ℕ) (key : List ℕ) (done keys : List (List ℕ)) →
      keys ≡ done ++ keys_below child_key key (node_at number) → 0 < length (reverse keys)
  some_key number key done keys keys_are =
      let names : List (List ℕ) = keys_below child_key key (node_at number) in
      let some : 0 < length names = omega arith in
      subst (λ n. 0 < n) (sym (length-reverse keys ∙ ap (λ ks. length ks) keys_are ∙ length-append done names)) (omega arith)
