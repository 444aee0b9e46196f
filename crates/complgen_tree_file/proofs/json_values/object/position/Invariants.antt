use Rattle.std.proofs.Common.{◌≡◌, ◌≤◌, ◌-◌, drop, length}
use Rattle.std.specs.List.{list_any}
use Rattle.std.specs.Str.{bytes_eq}
use Rattle.complgen_tree_file.proofs.json_values.object.position.Given as goal

-- the key is one of those that are left if it is one at all
abbrev pub invariant-loop-index : goal.invariant-loop-index
invariant-loop-index l = (list_any (λ known. bytes_eq known.now l.key) (drop l.index l.keys) ≡ list_any (λ known. bytes_eq known.now l.key) l.keys) × (l.index ≤ length l.keys)

abbrev pub decreases-loop-index : goal.decreases-loop-index
decreases-loop-index l = length l.keys - l.index
