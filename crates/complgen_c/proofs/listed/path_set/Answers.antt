use Rattle.std.proofs.lemmas.Iterator.{YieldsList-from_slice}
use Rattle.std.proofs.lemmas.Iterator.Adapters.{fact_from_collect}
use Rattle.std.proofs.lemmas.Iterator.Consumers.{YieldsList-from_copied}
use Rattle.std.proofs.lemmas.Result.{IfOk-weaker}
use Rattle.std.specs.BTreeSet.{IsFromIterResult}
use Rattle.std.specs.Cmp.Lexicographic.{slice_cmp}
use Rattle.std.specs.Ordering.{nat_cmp}
use Rattle.complgen_c.proofs.PathSets.{same_paths}
use Rattle.complgen_c.proofs.listed.path_set.Goals as goal

pub returns : goal.returns
returns c =
    IfOk-weaker c.collect.result _ _ (λ set made. same_paths c.args.paths.now set made)
    (fact_from_collect (IsFromIterResult (λ a b. slice_cmp nat_cmp a.now b.now)) c.collect.result
    c.collect.ensures.ran (YieldsList-from_copied (YieldsList-from_slice c.args.paths.now cc)))
