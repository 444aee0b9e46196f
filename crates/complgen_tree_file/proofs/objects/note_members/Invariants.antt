use Rattle.std.specs.Prelude.{◌≡◌, ◌&&◌, take}
use Rattle.std.specs.List.{list_all, list_any}
use Rattle.std.specs.Str.{bytes_eq}
use Rattle.complgen_tree_file.specs.Faults.{has_none}
use Rattle.complgen_tree_file.proofs.objects.note_members.Given as goal

-- something more was found, unless the keys so far are known
abbrev pub invariant-loop-index : goal.invariant-loop-index
invariant-loop-index l = has_none l.faults ≡ (has_none l.initial.faults
    && list_all (λ member. list_any (λ known. bytes_eq known.now member.0.now) l.keys)
    (take l.index l.members))
