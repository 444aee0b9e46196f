use Rattle.std.proofs.Common.{refl}
use Rattle.cc_candidates.proofs.Results.{IfOk-at}
use Rattle.cc_candidates.proofs.closures.FnCandidatesValueCandidates.candidates.Goals as goal

pub returns : goal.returns
returns g c = IfOk-at c.called.result _ (λ found is. (c.args.alloc, found, rw (← is) c.called.ensures, refl))
