-- The visits of a small tree, in both orders.
use Rattle.std.proofs.Common.{◌≡◌, ℕ, List, [], ◌∷◌, ◌++◌, map, codes, refl}
use Rattle.std.specs.List.{flat_map}
use Rattle.cc_command.specs.Made.{new_tree, with_child}
use Rattle.cc_command.specs.Tree.{Tree}
use Rattle.cc_generator.specs.Visits.{Step, enter, leave, joined, longer_path, paths_below, path_visits, steps_below, path_steps, tables_below, table_visits}

-- `app` with the children `run`, also called `r`, and `list`; `job` is a child of `run`
abbrev app : Tree
app =
    let run = with_child (new_tree (codes "run")) (new_tree (codes "job")) in
    let aliased = record run { node = record run.node { visible_aliases = codes "r" ∷ [] } } in
    with_child (with_child (new_tree (codes "app")) aliased) (new_tree (codes "list"))

visits :
    -- table order: both names of `run`, then everything below it under each name
    (map (λ visit. visit.key) (table_visits (joined (codes ";")) (codes "app") app)
    ≡ codes "app" ∷ codes "app;run" ∷ codes "app;r" ∷ codes "app;run;job" ∷ codes "app;r;job" ∷ codes "app;list" ∷ [])
    -- path order: one name of `run` with everything below it, then the other
    × (map (λ visit. visit.key) (path_visits (joined (codes " ")) (codes "app") app)
    ≡ codes "app" ∷ codes "app run" ∷ codes "app run job" ∷ codes "app r" ∷ codes "app r job" ∷ codes "app list" ∷ [])
    -- the nodes visited in path order, and the nodes above them
    × (map (λ visit. visit.tree.node.name) (path_visits longer_path [] app)
    ≡ codes "app" ∷ codes "run" ∷ codes "job" ∷ codes "run" ∷ codes "job" ∷ codes "list" ∷ [])
    × (map (λ visit. visit.above.name) (path_visits longer_path [] app)
    ≡ codes "app" ∷ codes "app" ∷ codes "run" ∷ codes "app" ∷ codes "run" ∷ codes "app" ∷ [])
unfolding tables_below paths_below
visits = (refl, refl, refl, refl)

-- a name and an opening bracket when a node is entered, a closing bracket when it is left
abbrev shown : Step (List ℕ) → List ℕ
shown (enter visit) = visit.key ++ codes "{"
shown (leave visit) = codes "}"

steps : flat_map shown (path_steps (λ _ name. name) (codes "app") app) ≡ codes "app{run{job{}}r{job{}}list{}}"
unfolding steps_below
steps = refl
