-- The stack of an iterator in table order, and the visits that it still gives.
use Rattle.std.specs.Prelude.{ℕ, ◌<◌, List, length, map}
use Rattle.std.specs.List.{flat_map, All}
use Rattle.cc_generator.specs.Flat.{Entry, tree_at}
use Rattle.cc_generator.specs.Visits.{Keyed, tables_from}
use Rattle.cc_generator.specs.declared.table_visits.TableItem.{TableItem}

-- a node under a key of its parent
abbrev pub item_at : ℕ → ℕ → List ℕ → TableItem
item_at above number key = record { above = above; number = number; key = key }

-- a node under each of the given keys of its parent
abbrev pub items_at : ℕ → ℕ → List (List ℕ) → List TableItem
items_at above number keys = map (item_at above number) keys

-- the numbers of an item are within the list of nodes
abbrev pub IsListed : List Entry → TableItem → Type 0
IsListed flat item = (item.number < length flat) × (item.above < length flat)

-- the numbers of each item are within the list of nodes
unfoldable pub AreListed : List Entry → List TableItem → Type 0
AreListed flat items = All (IsListed flat) items

-- nodes, each under each of the given keys of their parent
abbrev pub table_items : ℕ → List (List ℕ) → List ℕ → List TableItem
table_items above keys numbers = flat_map (λ number. items_at above number keys) numbers

-- the visits that an item gives; its key is the key of its parent
abbrev pub tables_of : List Entry → (List ℕ → List ℕ → List ℕ) → TableItem → List (Keyed (List ℕ))
tables_of flat child_key item =
    tables_from child_key item.key (tree_at flat item.above).node (tree_at flat item.number)
