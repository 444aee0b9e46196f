-- The node after a position, and a bound on its level.
use Rattle.std.proofs.Common.{◌≡◌, ℕ, zero, suc, ◌+◌, ◌-◌, ◌<◌, ◌≤◌, List, [], ◌∷◌, ◌++◌, length, Option, Some, None, unwrap_or, refl, ap, ◌∙◌, sym, subst, append_assoc, arith}
use Rattle.std.specs.List.{range_with_len}
use Rattle.std.specs.Option.{option_and_then}
use Rattle.cc_generator.specs.Flat.{Entry, HasItsChildren, IsChildAt, IsFlat, children_at, entry_at, numbers_between, tree_at}
use Rattle.cc_generator.specs.Positions.{BeginsAt, children_end, later_nodes, nodes_after, nodes_from, path_start, preorder_at}
use Rattle.cc_generator.specs.Preorder.{Levelled, preorder}
use Rattle.cc_generator.specs.declared.preorder.Cursor.{Cursor}
use Rattle.cc_generator.proofs.Numbers.{HasParentOrNone, HasParentOrNone-at, numbers_between_first}

-- a path has at most one name more than the number of its node
pub level_low : (flat : List Entry) → IsFlat flat → (level number : ℕ) → number < length flat →
    path_start flat level number ≡ Some 0 → level ≤ suc number
level_low flat is_flat zero number inside starts = omega arith
level_low flat is_flat (suc zero) number inside starts = omega arith
level_low flat is_flat (suc (suc level)) number inside starts =
    below (entry_at flat number).parent (HasParentOrNone-at flat number is_flat inside) starts
    (level_low flat is_flat (suc level))
  where
    below : (parent : Option ℕ) → HasParentOrNone flat number parent →
        option_and_then (path_start flat (suc level)) parent ≡ Some 0 →
        ((above : ℕ) → above < length flat → path_start flat (suc level) above ≡ Some 0 →
        suc level ≤ suc above) → suc (suc level) ≤ suc number
    below None root starts low = cc
    below (Some parent) is starts low =
        omega (arith, low parent (omega (arith, is.1.0)) starts, is.1.0)

abbrev position_at : ℕ → ℕ → Cursor
position_at level number = record { number = number; level = level }

-- the siblings from one on, then the nodes after their parent
siblings_from : (flat : List Entry) (level number parent end : ℕ) →
    (entry_at flat number).parent ≡ Some parent → end ≡ children_end flat parent → number < end →
    preorder_at flat (suc (suc level)) (numbers_between number end)
    ++ later_nodes flat (suc level) parent ≡ nodes_from flat (suc (suc level)) number
siblings_from flat level number parent end is last low =
    let siblings : List ℕ → List Levelled = preorder_at flat (suc (suc level)) in
    let after : List Levelled = later_nodes flat (suc level) parent in
    let node : Levelled = record { level = suc (suc level); tree = tree_at flat number } in
    let below : List Levelled = preorder (suc (suc (suc level))) (tree_at flat number).children in
    ap (λ numbers. siblings numbers ++ after) (numbers_between_first number end low)
    ∙ append_assoc (node ∷ below) (siblings (numbers_between (number + 1) end)) after
    ∙ ap (λ t. node ∷ (below ++ t))
    (ap (λ e. siblings (numbers_between (number + 1) e) ++ after) last
    ∙ ap (λ p. siblings (numbers_between (number + 1) (children_end flat p))
    ++ later_nodes flat (suc level) p) (sym (ap (λ p. unwrap_or p 0) is)))

-- the first child comes after a node
pub first_child : (flat : List Entry) (level below number start end : ℕ) → below ≡ level + 1 →
    HasItsChildren flat number → start ≡ (entry_at flat number).first_child →
    end ≡ start + (entry_at flat number).child_count →
    numbers_between start end ≡ children_at flat number → start < end →
    path_start flat level number ≡ Some 0 →
    BeginsAt flat (nodes_after flat level number) (Some (position_at below start))
first_child flat zero below number start end below_is its first last numbers low starts = cc
first_child flat (suc level) below number start end below_is its first last numbers low starts =
    let is_below : below ≡ suc (suc level) = omega (arith, below_is) in
    let parent : (entry_at flat start).parent ≡ Some number =
    its.parent start (record { low = omega (arith, first); high = omega (arith, first, last) }) in (
      record {
        listed = omega (arith, first, last, low, its.within);
        level =
            ap (λ l. path_start flat l start) is_below
            ∙ ap (option_and_then (path_start flat (suc level))) parent ∙ starts;
      },
      ap (λ forest. preorder (suc (suc level)) forest ++ later_nodes flat (suc level) number)
          (sym its.forest)
          ∙ ap (λ n. preorder_at flat (suc (suc level)) n ++ later_nodes flat (suc level) number)
          (sym numbers)
          ∙ siblings_from flat level start number end parent (omega (arith, first, last)) low
          ∙ ap (λ l. nodes_from flat l start) (sym is_below),
    )

module _ (flat : List Entry) (number parent : ℕ)
    (is : (entry_at flat number).parent ≡ Some parent) (before : parent < number) where
  -- the next sibling comes after a sibling that is not the last
  pub later_sibling : (level : ℕ) → HasItsChildren flat parent → IsChildAt flat parent number →
      number + 1 < children_end flat parent → path_start flat level number ≡ Some 0 →
      BeginsAt flat (later_nodes flat level number) (Some (position_at level (number + 1)))
  later_sibling zero its child low starts = cc
  later_sibling (suc zero) its child low starts =
      absurd (omega (arith, before, ap (λ n. unwrap_or n 0) starts))
  later_sibling (suc (suc level)) its child low starts =
      let next : (entry_at flat (number + 1)).parent ≡ Some parent =
      its.parent (number + 1) (record { low = omega (arith, child.low); high = low }) in (
        record {
          listed = omega (arith, low, its.within);
          level = ap (option_and_then (path_start flat (suc level))) (next ∙ sym is) ∙ starts;
        },
        ap (λ p. preorder_at flat (suc (suc level))
            (numbers_between (number + 1) (children_end flat p)) ++ later_nodes flat (suc level) p)
            (ap (λ p. unwrap_or p 0) is)
            ∙ siblings_from flat level (number + 1) parent (children_end flat parent) next refl low,
      )

  -- the nodes after the parent come after the last sibling
  pub later_above : (level up : ℕ) → up ≡ level - 1 → children_end flat parent ≤ number + 1 →
      path_start flat level number ≡ Some 0 →
      (path_start flat up parent ≡ Some 0)
      × (later_nodes flat up parent ≡ later_nodes flat level number)
  later_above zero up up_is last starts = cc
  later_above (suc zero) up up_is last starts =
      absurd (omega (arith, before, ap (λ n. unwrap_or n 0) starts))
  later_above (suc (suc level)) up up_is last starts =
      let is_up : up ≡ suc level = omega (arith, up_is) in
      let none_left : 0 ≡ children_end flat parent - (number + 1) = omega (arith, last) in
      let later : ℕ → ℕ → List Levelled = λ count p.
      preorder_at flat (suc (suc level)) (range_with_len (number + 1) count)
      ++ later_nodes flat (suc level) p in (
        ap (λ l. path_start flat l parent) is_up
            ∙ sym (ap (option_and_then (path_start flat (suc level))) is) ∙ starts,
        ap (λ l. later_nodes flat l parent) is_up ∙ ap (λ n. later n parent) none_left
            ∙ sym (ap (λ p. later (children_end flat p - (number + 1)) p) (ap (λ p. unwrap_or p 0) is)),
      )

-- nothing comes after the root and everything below it
pub none_later : (flat : List Entry) (level number : ℕ) → (entry_at flat number).parent ≡ None →
    path_start flat level number ≡ Some 0 → later_nodes flat level number ≡ []
none_later flat (suc (suc level)) number root starts =
    let P : Option ℕ → Type 0 =
    λ parent. option_and_then (path_start flat (suc level)) parent ≡ Some 0 in
    let nothing : P None = subst P root starts in cc
none_later flat level number root starts = refl
