use Rattle.complgen_c.proofs.ReplyLemmas.{no_answer, over_listing}
use Rattle.complgen_c.proofs.live.answer_to.Goals as goal

pub returns-in-Ok : goal.returns-in-Ok
returns-in-Ok c =
    over_listing c.args.passed.now.tree.now _ _ _ _ _ _ _ c.get.ensures c.in-Ok.ensures
    (rw c.as_slice.ensures.value at c.answer_in.ensures)

pub returns : goal.returns
returns c = no_answer c.args.passed.now.tree.now _ _ _ _ _ _ c.from.ensures
