use Rattle.std.proofs.Common.{◌≡◌, drop}
use Rattle.std.specs.Prelude.{not}
use Rattle.std.specs.List.{list_all}
use Rattle.cc_command.specs.Names.{contains_name}
use Rattle.cc_command.proofs.command.plain.is_apart.Given as goal

-- none of the visited names is among the others
abbrev pub invariant-loop-name : goal.invariant-loop-name
invariant-loop-name l =
    list_all (λ name. not (contains_name l.others name)) (drop l.name-index l.names)
    ≡ list_all (λ name. not (contains_name l.others name)) l.names
