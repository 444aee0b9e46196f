use Rattle.std.proofs.Common.{refl}
use Rattle.complgen_tree_file.proofs.sources.set_source_keys.Goals as goal

pub returns : goal.returns
returns c = record {
  same = rw (c.in_ok-set.ensures.same, c.in_ok-set-2.ensures.same, c.in_ok-set-3.ensures.same, c.in_ok-set-4.ensures.same, c.in_ok-set-5.ensures.same, c.in_ok-set-6.ensures.same) refl;
  faults = rw (c.in_ok-set-6.ensures.faults, c.in_ok-set-5.ensures.faults, c.in_ok-set-4.ensures.faults, c.in_ok-set-3.ensures.faults, c.in_ok-set-2.ensures.faults, c.in_ok-set.ensures.faults) refl;
}
