use Rattle.std.proofs.Common.{take, drop}
use Rattle.std.specs.Vec.Iter.{into_iter_items}
use Rattle.cc_command.specs.Tree.{forest_of}
use Rattle.cc_command.proofs.PutIn.{IsPutUpTo}
use Rattle.cc_command.proofs.command.+built.Given as goal

-- the visited siblings are built, and the list has the additions to the others
abbrev pub invariant-build::put_in_all-loop-sibling : goal.invariant-build::put_in_all-loop-sibling
invariant-build::put_in_all-loop-sibling l = record {
  unvisited : goal.unvisited-build::put_in_all-loop-sibling l;
  put : IsPutUpTo (forest_of l.fn.siblings) (into_iter_items l.fn.additions) (take l.sibling-index l.siblings) (drop l.sibling-index l.siblings) (into_iter_items l.additions);
}
