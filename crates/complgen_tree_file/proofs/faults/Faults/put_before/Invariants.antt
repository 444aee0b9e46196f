use Rattle.std.specs.Prelude.{◌≡◌, ◌-◌, length}
use Rattle.complgen_tree_file.proofs.faults.Faults.put_before.Given as goal

abbrev pub invariant-loop-index : goal.invariant-loop-index
invariant-loop-index l = length l.self.list.items ≡ length l.initial.self.list.items

abbrev pub decreases-loop-index : goal.decreases-loop-index
decreases-loop-index l = length l.self.list.items - l.index
