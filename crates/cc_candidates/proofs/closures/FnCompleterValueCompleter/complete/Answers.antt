use Rattle.std.proofs.Common.{refl}
use Rattle.cc_candidates.proofs.Results.{IfOk-at}
use Rattle.cc_candidates.proofs.closures.FnCompleterValueCompleter.complete.Goals as goal

pub returns : goal.returns
returns g c = IfOk-at c.called.result _ (λ found is number. (c.args.alloc, c.args.text, found, rw (← is) c.called.ensures, refl, refl))
