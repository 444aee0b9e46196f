-- The stack of an iterator in path order, and the steps that it still gives.
use Rattle.std.specs.Prelude.{ℕ, ◌<◌, List, [], ◌∷◌, Bool, length, map, false, if◌then◌else◌}
use Rattle.std.specs.List.{flat_map, All}
use Rattle.cc_generator.specs.Flat.{Entry, tree_at}
use Rattle.cc_generator.specs.Visits.{keyed, keys_below, Step, leave, steps_from}
use Rattle.cc_generator.specs.declared.path_steps.StepItem.{StepItem}

-- a node under a key, which is to be left or entered
abbrev pub step_item : Bool → ℕ → ℕ → List ℕ → StepItem
step_item leaving above number key =
    record { above = above; number = number; key = key; leaving = leaving }

-- a node that is to be entered under each of the given keys
abbrev pub entries_at : ℕ → ℕ → List (List ℕ) → List StepItem
entries_at above number keys = map (step_item false above number) keys

-- the numbers of an item are within the list of nodes
abbrev pub IsListed : List Entry → StepItem → Type 0
IsListed flat item = (item.number < length flat) × (item.above < length flat)

-- the numbers of each item are within the list of nodes
unfoldable pub AreListed : List Entry → List StepItem → Type 0
AreListed flat items = All (IsListed flat) items

-- nodes, each under its keys below one key of their parent
abbrev pub step_items : List Entry → (List ℕ → List ℕ → List ℕ) → ℕ → List ℕ → List ℕ
    → List StepItem
step_items flat child_key above key numbers =
    flat_map (λ number. entries_at above number
    (keys_below child_key key (tree_at flat number).node)) numbers

-- the steps that an item gives
abbrev pub steps_of : List Entry → (List ℕ → List ℕ → List ℕ) → StepItem → List (Step (List ℕ))
steps_of flat child_key item =
    if item.leaving then leave
    (keyed item.key (tree_at flat item.above).node (tree_at flat item.number)) ∷ []
    else steps_from child_key item.key (tree_at flat item.above).node (tree_at flat item.number)
