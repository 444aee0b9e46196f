use Rattle.std.proofs.Common.{arith}
use Rattle.complgen_c.proofs.RequestLemmas.{all_copied, not_all}
use Rattle.complgen_c.proofs.requests.texts.Goals as goal

pub returns : goal.returns
returns c =
    all_copied c.loop-slice.texts.items c.args.slices.now c.loop-slice.slice-index
    (omega (arith, c.loop-slice-test.false)) c.loop-slice.invariant

pub returns-in_default : goal.returns-in_default
returns-in_default c =
    not_all c.args.slices.now c.loop-slice.slice-index _ (omega arith) c.in_default.ensures.cases.0
