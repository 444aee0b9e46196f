use Rattle.std.proofs.Common.{◌≡◌, drop}
use Rattle.cc_zsh.specs.Conflicts.{has_arguments, with_ids}
use Rattle.cc_zsh.proofs.conflicts.has_found.Given as goal

-- no argument has one of the ids before the index
abbrev pub invariant-loop-id : goal.invariant-loop-id
invariant-loop-id l =
    has_arguments (with_ids l.arguments (drop l.id-index l.ids))
    ≡ has_arguments (with_ids l.arguments l.ids)
