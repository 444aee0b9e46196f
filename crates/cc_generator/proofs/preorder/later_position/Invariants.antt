use Rattle.std.proofs.Common.{◌≡◌, ◌<◌, Some, length}
use Rattle.cc_generator.specs.Positions.{later_nodes, path_start}
use Rattle.cc_generator.proofs.preorder.later_position.Given as goal

-- the nodes after this one are the nodes after the position
abbrev pub invariant-loop-parent : goal.invariant-loop-parent
invariant-loop-parent l = record {
  listed : l.number < length l.flat;
  level : path_start l.flat l.level l.number ≡ Some 0;
  left : later_nodes l.flat l.level l.number
      ≡ later_nodes l.flat l.fn.position.level l.fn.position.number;
}

abbrev pub decreases-loop-parent : goal.decreases-loop-parent
decreases-loop-parent l = l.number
