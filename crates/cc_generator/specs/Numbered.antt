-- One step of the numbering: the children of a node get the next free numbers.
use Rattle.std.specs.Prelude.{ℕ, List, ◌++◌, length, map, Option, Some, slice_set}
use Rattle.cc_command.specs.Tree.{Tree}
use Rattle.cc_generator.specs.Flat.{Entry, entry_at}

-- a node whose children have no numbers yet
abbrev pub without_numbers : Option ℕ → Tree → Entry
without_numbers parent tree =
    record { tree = tree; parent = parent; first_child = 0; child_count = 0 }

-- the node with this number has `count` children, to be listed after all other nodes
abbrev pub with_count : List Entry → ℕ → ℕ → List Entry
with_count flat number count =
    slice_set flat number (record
    (entry_at flat number) { first_child = length flat; child_count = count })

-- the children of the node with this number are listed after all others
abbrev pub with_children : List Entry → ℕ → List Tree → List Entry
with_children flat number children =
    with_count flat number (length children) ++ map (without_numbers (Some number)) children
