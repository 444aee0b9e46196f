use Rattle.std.proofs.Common.{ap, ◌∙◌, ◌++◌}
use Rattle.std.proofs.lemmas.Result.{IfOk-weaker}
use Rattle.cc_engine.specs.Finished.{finish}
use Rattle.cc_engine.proofs.FinishingLaws.{finish_after}
use Rattle.cc_engine.proofs.gathering.finishing.finish_after.Goals as goal

pub returns-clause-once : goal.returns-clause-once
returns-clause-once c =
    IfOk-weaker c.finish-2.result _ _
    (λ finished e apart. e ∙ ap finish (c.in_ok-append.ensures.items ∙ ap (λ r. c.args.candidates.items ++ r) c.in_ok-others.ensures.value)
    ∙ finish_after c.args.candidates.items c.args.others.items apart)
    c.finish-2.ensures.value
