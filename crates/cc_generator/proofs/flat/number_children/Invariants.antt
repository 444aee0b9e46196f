use Rattle.std.proofs.Common.{◌≡◌, ◌++◌, length, map, take, Some}
use Rattle.cc_generator.specs.Flat.{entries_of}
use Rattle.cc_generator.specs.Numbered.{without_numbers, with_count}
use Rattle.cc_generator.proofs.flat.number_children.Given as goal

-- the children up to this one are listed
abbrev pub invariant-loop-command : goal.invariant-loop-command
invariant-loop-command l =
    entries_of l.nodes.items
    ≡ with_count (entries_of l.fn.nodes.items) l.number (length l.children) ++ map (without_numbers (Some l.number)) (take l.command-index l.children)
