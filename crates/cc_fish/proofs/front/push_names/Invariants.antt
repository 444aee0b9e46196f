use Rattle.std.proofs.Common.{◌≡◌, ◌++◌, flat_map, string_bytes}
use Rattle.cc_command.specs.Iterators.{names_left}
use Rattle.cc_command.specs.Names.{visible_names}
use Rattle.cc_fish.specs.Script.{spaced_name}
use Rattle.cc_fish.proofs.front.push_names.Given as goal

-- the names added and the remaining names make up the whole
abbrev pub invariant-loop-name : goal.invariant-loop-name
invariant-loop-name l =
    string_bytes l.front ++ flat_map spaced_name (names_left l.name-iterator)
    ≡ string_bytes l.initial.front ++ flat_map spaced_name (visible_names l.child.node)
