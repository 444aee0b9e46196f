-- The results that a stack still gives, as items come and go.
use Rattle.std.proofs.Common.{◌≡◌, ℕ, suc, ◌+◌, ◌-◌, ◌<◌, List, [], ◌∷◌, ◌++◌, length, reverse, ap, ◌∙◌, sym, append_assoc, append-nil, arith}
use Rattle.std.specs.List.{flat_map, range_with_len}
use Rattle.std.proofs.lemmas.List.{nil_from_length, reverse-append, reverse-reverse}
use Rattle.std.proofs.lemmas.List.Concat.{flat_map-append}
use Rattle.cc_generator.specs.Flat.{numbers_between}
use Rattle.cc_generator.specs.Stack.{from_stack}

module _ {A B : Type 0} (from_item : A → List B) where
  -- from one item
  pub from_stack_one : (item : A) → from_stack from_item (item ∷ []) ≡ from_item item
  unfolding from_stack
  from_stack_one item = append-nil (from_item item)

  -- from an empty stack
  pub from_stack_none : (stack : List A) → length stack ≡ 0 → from_stack from_item stack ≡ []
  unfolding from_stack
  from_stack_none stack none = ap (from_stack from_item) (nil_from_length stack none)

  -- the item on top comes first
  pub from_stack_popped : (rest : List A) (item : A) → from_stack from_item (rest ++ item ∷ []) ≡ from_item item ++ from_stack from_item rest
  unfolding from_stack
  from_stack_popped rest item = ap (flat_map from_item) (reverse-append rest (item ∷ []))

  -- items that are moved onto the stack come first, in their order
  pub from_stack_pushed : (rest items : List A) → from_stack from_item (rest ++ reverse items) ≡ flat_map from_item items ++ from_stack from_item rest
  unfolding from_stack
  from_stack_pushed rest items =
      ap (flat_map from_item) (reverse-append rest (reverse items) ∙ ap (λ xs. xs ++ reverse rest) (reverse-reverse items)) ∙
      flat_map-append from_item items (reverse rest)

-- the items of one more number, if the items are listed number by number
pub items_more : {A : Type 0} (f : ℕ → List A) (before after whole : List A) (start end : ℕ) → start < end → after ≡ before ++ f start →
    before ++ flat_map f (numbers_between start end) ≡ whole → after ++ flat_map f (numbers_between (start + 1) end) ≡ whole
items_more f before after whole start end low one so_far =
    let one_more : end - start ≡ suc (end - (start + 1)) = omega arith in
    ap (λ t. t ++ flat_map f (numbers_between (start + 1) end)) one ∙
    append_assoc before (f start) (flat_map f (numbers_between (start + 1) end)) ∙
    ap (λ n. before ++ flat_map f (range_with_len start n)) (sym one_more) ∙ so_far
