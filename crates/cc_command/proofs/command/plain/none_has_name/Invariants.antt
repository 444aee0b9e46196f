use Rattle.std.proofs.Common.{◌≡◌, drop}
use Rattle.std.specs.Prelude.{not}
use Rattle.std.specs.List.{list_all}
use Rattle.cc_command.specs.Tree.{forest_of}
use Rattle.cc_command.specs.Names.{has_child}
use Rattle.cc_command.proofs.command.plain.none_has_name.Given as goal

-- no sibling has one of the visited names
abbrev pub invariant-loop-name : goal.invariant-loop-name
invariant-loop-name l =
    list_all (λ name. not (has_child (forest_of l.siblings) name)) (drop l.name-index l.names)
    ≡ list_all (λ name. not (has_child (forest_of l.siblings) name)) l.names
