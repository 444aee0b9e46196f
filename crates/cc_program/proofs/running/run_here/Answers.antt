use Rattle.cc_env.specs.OwnAnswers.{AnswersCalled}
use Rattle.cc_program.proofs.SeenEnds.{seen_run}
use Rattle.cc_program.proofs.running.run_here.Goals as goal

pub returns : goal.returns
returns g c =
    seen_run _ _ _ _ _ _ _ (AnswersCalled c.args.program.completion c.args.called.now _ _) _ _ c.new-out.ensures.bytes
    c.new-out.ensures.failures c.new-err.ensures.bytes c.new-err.ensures.failures c.run_over.ensures
