use Rattle.std.proofs.Common.{◌≡◌, ◌++◌, drop, map}
use Rattle.std.specs.List.{flat_map}
use Rattle.std.specs.Option.{option_to_list}
use Rattle.cc_command.specs.ArgumentLists.{conflicting, first_with_id}
use Rattle.cc_command.proofs.command.Command.get_arg_conflicts_with.Given as goal

-- the arguments that were found, then those that the remaining ids find, are all of them
abbrev pub invariant-loop-id : goal.invariant-loop-id
invariant-loop-id l = map (λ other. other.now) l.found.items
    ++ flat_map (λ id. option_to_list (first_with_id l.self.node.arguments id)) (drop l.id-index l.id-items)
    ≡ conflicting l.self.node.arguments l.argument
