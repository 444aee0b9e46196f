use Rattle.complgen_c.proofs.ReplyLemmas.{over_current}
use Rattle.complgen_c.proofs.live.answer_in.Goals as goal

pub returns : goal.returns
returns c =
    over_current c.args.passed.now.tree.now _ c.args.env.now _ _ _ _ _ _ _ c.get.ensures
    c.path-path.ensures c.answer_request-answered.ensures c.outcome.ensures
