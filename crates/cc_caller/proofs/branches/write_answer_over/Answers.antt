use Rattle.cc_caller.proofs.OverAnswer.{answered_over}
use Rattle.cc_caller.proofs.branches.write_answer_over.Goals as goal

pub returns : goal.returns
returns g c =
    answered_over (λ factory made. goal.F-post g factory c.args.alloc made) _ _ _ _ _ _ _ _ _ _ _ _ _ _ _ _ c.safe-completion.ensures.factory
    c.safe-completion.ensures.variable c.safe-completion.ensures.names.0 c.safe-completion.ensures.names.1
    c.safe-completion.ensures.shells c.try_complete_asking.ensures
