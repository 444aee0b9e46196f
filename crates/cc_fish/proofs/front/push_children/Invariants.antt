use Rattle.std.proofs.Common.{◌≡◌, ◌++◌, drop, flat_map, string_bytes}
use Rattle.cc_command.specs.Tree.{forest_of}
use Rattle.cc_fish.specs.Script.{spaced_name}
use Rattle.cc_generator.specs.Subcommands.{sibling_names}
use Rattle.cc_fish.proofs.front.push_children.Given as goal

-- the names added and the remaining names make up the whole
abbrev pub invariant-loop-child : goal.invariant-loop-child
invariant-loop-child l =
    string_bytes l.front ++ flat_map spaced_name (sibling_names (forest_of (drop l.child-index l.children)))
    ≡ string_bytes l.initial.front ++ flat_map spaced_name (sibling_names (forest_of l.children))
