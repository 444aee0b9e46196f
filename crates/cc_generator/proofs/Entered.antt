-- The nodes that are entered in path order are the visits in path order.
use Rattle.std.proofs.Common.{◌≡◌, ℕ, List, [], ◌∷◌, ◌++◌, flat_map, refl, ap, ap₂, ◌∙◌, sym, append-nil}
use Rattle.std.proofs.lemmas.List.Concat.{flat_map-append}
use Rattle.cc_command.specs.declared.node.Node.{Node}
use Rattle.cc_command.specs.Tree.{Forest, none, more, Tree}
use Rattle.cc_generator.specs.Visits.{Keyed, keyed, Step, enter, leave, keys_below, paths_below, path_visits, steps_below, path_steps, where_entered}

module _ {Key B : Type 0} (child_key : Key → List ℕ → Key) (text : Keyed Key → List B) where
  -- the steps of one node under one key
  abbrev steps_at : Node → Node → Forest → Key → List (Step Key)
  steps_at above node below child =
      enter (keyed child above (record { node = node; children = below })) ∷
      (steps_below child_key child node below ++ leave (keyed child above (record { node = node; children = below })) ∷ [])

  abbrev visits_at : Node → Node → Forest → Key → List (Keyed Key)
  visits_at above node below child = keyed child above (record { node = node; children = below }) ∷ paths_below child_key child node below

  at-each : (above node : Node) (below : Forest) → ((key : Key) → flat_map (where_entered text) (steps_below child_key key node below) ≡ flat_map text (paths_below child_key key node below)) →
      (keys : List Key) → flat_map (where_entered text) (flat_map (steps_at above node below) keys) ≡ flat_map text (flat_map (visits_at above node below) keys)
  at-each above node below same [] = refl
  at-each above node below same (key ∷ keys) =
      let tree : Tree = record { node = node; children = below } in
      flat_map-append (where_entered text) (steps_at above node below key) (flat_map (steps_at above node below) keys) ∙
      ap₂ (λ a b. (text (keyed key above tree) ++ a) ++ b)
      (flat_map-append (where_entered text) (steps_below child_key key node below) (leave (keyed key above tree) ∷ []) ∙ append-nil (flat_map (where_entered text) (steps_below child_key key node below)) ∙ same key)
      (at-each above node below same keys) ∙
      sym (flat_map-append text (visits_at above node below key) (flat_map (visits_at above node below) keys))

  entered-below : (forest : Forest) (above : Node) (key : Key) → flat_map (where_entered text) (steps_below child_key key above forest) ≡ flat_map text (paths_below child_key key above forest)
  unfolding steps_below paths_below
  entered-below none above key = refl
  entered-below (more node below rest) above key =
      flat_map-append (where_entered text) (flat_map (steps_at above node below) (keys_below child_key key node)) (steps_below child_key key above rest) ∙
      ap₂ (λ a b. a ++ b) (at-each above node below (λ key. entered-below below node key) (keys_below child_key key node)) (entered-below rest above key) ∙
      sym (flat_map-append text (flat_map (visits_at above node below) (keys_below child_key key node)) (paths_below child_key key above rest))

  -- what the visits give, step by step
  pub entered_visits : (key : Key) (tree : Tree) → flat_map (where_entered text) (path_steps child_key key tree) ≡ flat_map text (path_visits child_key key tree)
  entered_visits key tree =
      let below : List (Step Key) = steps_below child_key key tree.node tree.children in
      ap (λ t. text (keyed key tree.node tree) ++ t)
      (flat_map-append (where_entered text) below (leave (keyed key tree.node tree) ∷ []) ∙ append-nil (flat_map (where_entered text) below) ∙
      entered-below tree.children tree.node key)
