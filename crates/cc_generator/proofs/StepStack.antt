-- The remaining steps in path order, as items are taken from the stack and put on it.
use Rattle.std.proofs.Common.{◌≡◌, ℕ, zero, suc, ◌+◌, ◌<◌, ◌≤◌, List, [], ◌∷◌, ◌++◌, length, reverse, true, false, cond, Some, refl, ap, ap₂, ◌∙◌, sym, subst, append_assoc, append-nil, arith}
use Rattle.std.specs.List.{flat_map, range_with_len, All}
use Rattle.std.proofs.lemmas.List.Concat.{flat_map-append}
use Rattle.std.proofs.lemmas.List.Folds.{flat_map-map}
use Rattle.std.proofs.lemmas.List.Elements.{All-nil, All-cons, All-pop, All-push, All-append, All-map}
use Rattle.std.proofs.lemmas.List.Sorted.{All-permutation, IsPermutation-reverse}
use Rattle.cc_command.specs.declared.node.Node.{Node}
use Rattle.cc_command.specs.Tree.{Tree, forest_of}
use Rattle.cc_generator.specs.Flat.{Entry, HasItsChildren, children_at, entry_at, tree_at, trees_at}
use Rattle.cc_generator.specs.Stack.{from_stack}
use Rattle.cc_generator.specs.StepStack.{AreListed, IsListed, entries_at, step_item, step_items, steps_of}
use Rattle.cc_generator.specs.Visits.{keyed, keys_below, Step, enter, leave, steps_below, steps_from}
use Rattle.cc_generator.specs.declared.path_steps.StepItem.{StepItem}
use Rattle.cc_generator.proofs.FromStack.{from_stack_none, from_stack_popped, from_stack_pushed}

-- ---- items whose numbers are within the list

-- one item
pub AreListed_one : (flat : List Entry) (item : StepItem) → item.number < length flat → item.above < length flat → AreListed flat (item ∷ [])
unfolding AreListed
AreListed_one flat item number above = All-cons (IsListed flat) item [] (number, above) (All-nil (IsListed flat))

module _ (flat : List Entry) (stack rest : List StepItem) (item : StepItem) (is : stack ≡ rest ++ item ∷ []) where
  -- the other items of a stack
  pub AreListed_rest : AreListed flat stack → AreListed flat rest
  unfolding AreListed
  AreListed_rest listed = (All-pop (IsListed flat) stack rest (Some item) is listed).0

  -- the item on top
  pub AreListed_top : AreListed flat stack → item.number < length flat
  unfolding AreListed
  AreListed_top listed = (All-pop (IsListed flat) stack rest (Some item) is listed).1.0

  pub AreListed_above : AreListed flat stack → item.above < length flat
  unfolding AreListed
  AreListed_above listed = (All-pop (IsListed flat) stack rest (Some item) is listed).1.1

  -- an item is put on the stack
  pub AreListed_push : AreListed flat rest → item.number < length flat → item.above < length flat → AreListed flat stack
  unfolding AreListed
  AreListed_push listed number above =
      let P : List StepItem → Type 0 = All (IsListed flat) in
      subst P (sym is) (All-push (IsListed flat) rest item listed (number, above))

module _ (flat : List Entry) (child_key : List ℕ → List ℕ → List ℕ) where
  abbrev node_at : ℕ → Node
  node_at number = (tree_at flat number).node

  AreListed-range : (above : ℕ) (key : List ℕ) (first count : ℕ) → above < length flat → first + count ≤ length flat →
      All (IsListed flat) (step_items flat child_key above key (range_with_len first count))
  AreListed-range above key first zero is_listed within = All-nil (IsListed flat)
  AreListed-range above key first (suc count) is_listed within =
      let keys : List (List ℕ) = keys_below child_key key (node_at first) in
      All-append (IsListed flat) (entries_at above first keys) (step_items flat child_key above key (range_with_len (first + 1) count))
      (All-map (IsListed flat) (step_item false above first) keys (λ i d k. (omega arith, is_listed)))
      (AreListed-range above key (first + 1) count is_listed (omega arith))

  -- the items of a node's children
  pub steps_listed : (number : ℕ) (key : List ℕ) (rest items new : List StepItem) → number < length flat → HasItsChildren flat number →
      items ≡ step_items flat child_key number key (children_at flat number) → new ≡ rest ++ reverse items → AreListed flat rest → AreListed flat new
  unfolding AreListed
  steps_listed number key rest items new is_listed its are pushed listed =
      let P : List StepItem → Type 0 = All (IsListed flat) in
      subst P (sym pushed) (All-append (IsListed flat) rest (reverse items) listed
      (All-permutation (IsListed flat) items (reverse items) (IsPermutation-reverse items)
      (subst P (sym are) (AreListed-range number key (entry_at flat number).first_child (entry_at flat number).child_count is_listed its.within))))

  -- the items of the root's children alone
  pub begin_listed : (key : List ℕ) (items stack : List StepItem) → 0 < length flat → HasItsChildren flat 0 →
      items ≡ step_items flat child_key 0 key (children_at flat 0) → stack ≡ reverse items → AreListed flat stack
  unfolding AreListed
  begin_listed key items stack is_listed its are reversed = steps_listed 0 key [] items stack is_listed its are reversed (All-nil (IsListed flat))

  -- ---- the remaining steps

  steps_of-items : (above : ℕ) (key : List ℕ) (numbers : List ℕ) →
      flat_map (steps_of flat child_key) (step_items flat child_key above key numbers) ≡ steps_below child_key key (node_at above) (forest_of (trees_at flat numbers))
  unfolding steps_below
  steps_of-items above key [] = refl
  steps_of-items above key (number ∷ numbers) =
      let keys : List (List ℕ) = keys_below child_key key (node_at number) in
      flat_map-append (steps_of flat child_key) (entries_at above number keys) (step_items flat child_key above key numbers) ∙
      ap (λ t. t ++ flat_map (steps_of flat child_key) (step_items flat child_key above key numbers))
      (flat_map-map (steps_of flat child_key) (step_item false above number) keys) ∙
      ap (λ t. flat_map (λ key. steps_from child_key key (node_at above) (tree_at flat number)) keys ++ t) (steps_of-items above key numbers)

  -- a node is left
  pub step_leave : (number above : ℕ) (key : List ℕ) (old rest : List StepItem) → old ≡ rest ++ step_item true above number key ∷ [] →
      from_stack (steps_of flat child_key) old ≡ leave (keyed key (node_at above) (tree_at flat number)) ∷ from_stack (steps_of flat child_key) rest
  step_leave number above key old rest popped =
      ap (from_stack (steps_of flat child_key)) popped ∙ from_stack_popped (steps_of flat child_key) rest (step_item true above number key)

  -- a node is entered
  pub step_enter : (item : StepItem) (own : List ℕ) (old rest kept items new : List StepItem) → item.leaving ≡ false → HasItsChildren flat item.number →
      old ≡ rest ++ item ∷ [] → own ≡ item.key → kept ≡ rest ++ step_item true item.above item.number own ∷ [] →
      items ≡ step_items flat child_key item.number item.key (children_at flat item.number) → new ≡ kept ++ reverse items →
      from_stack (steps_of flat child_key) old ≡ enter (keyed item.key (node_at item.above) (tree_at flat item.number)) ∷ from_stack (steps_of flat child_key) new
  step_enter item own old rest kept items new entering its popped own_is kept_is are pushed =
      let from_item = steps_of flat child_key in
      let tree : Tree = tree_at flat item.number in
      let above : Node = node_at item.above in
      let end : List (Step (List ℕ)) = leave (keyed item.key above tree) ∷ [] in
      ap (from_stack from_item) popped ∙ from_stack_popped from_item rest item ∙
      ap (λ leaving. cond leaving end (steps_from child_key item.key above tree) ++ from_stack from_item rest) entering ∙
      ap (λ t. enter (keyed item.key above tree) ∷ t)
      (append_assoc (steps_below child_key item.key tree.node tree.children) end (from_stack from_item rest) ∙
      ap (λ t. t ++ (end ++ from_stack from_item rest))
      (ap (steps_below child_key item.key tree.node) (sym its.forest) ∙ sym (steps_of-items item.number item.key (children_at flat item.number)) ∙ ap (flat_map from_item) (sym are)) ∙
      ap (λ t. flat_map from_item items ++ t)
      (sym (step_leave item.number item.above item.key kept rest (kept_is ∙ ap (λ key. rest ++ step_item true item.above item.number key ∷ []) own_is))) ∙
      sym (ap (from_stack from_item) pushed ∙ from_stack_pushed from_item kept items))

  -- everything below the root
  pub steps_begin : (key : List ℕ) (items stack : List StepItem) → HasItsChildren flat 0 →
      items ≡ step_items flat child_key 0 key (children_at flat 0) → stack ≡ reverse items →
      from_stack (steps_of flat child_key) stack ≡ steps_below child_key key (node_at 0) (tree_at flat 0).children
  steps_begin key items stack its are reversed =
      let from_item = steps_of flat child_key in
      ap (from_stack from_item) reversed ∙ from_stack_pushed from_item [] items ∙
      ap₂ (λ a b. a ++ b) (ap (flat_map from_item) are ∙ steps_of-items 0 key (children_at flat 0) ∙ ap (steps_below child_key key (node_at 0)) its.forest)
      (from_stack_none from_item [] refl) ∙
      append-nil (steps_below child_key key (node_at 0) (tree_at flat 0).children)
