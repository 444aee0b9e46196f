use Rattle.complgen_c.specs.Live.{not_utf8, out_of_memory}
use Rattle.complgen_c.proofs.ReplyLemmas.{request_answered}
use Rattle.complgen_c.proofs.live.lagvtsune_live.Goals as goal

pub returns-in-Ok-Some : goal.returns-in-Ok-Some
returns-in-Ok-Some c = record {
  outcome = c.answer_to.result;
  may_end = request_answered c.args.request.now.tree.now _ _ _ _ _ _ _ _ _
      (rw c.in-Ok-Some.field-0-is at c.in-Ok-Some.ensures) c.answer_to.ensures;
  returns = c.put.ensures;
}

pub returns-in-Ok-None : goal.returns-in-Ok-None
returns-in-Ok-None c = record {
  outcome = _;
  may_end = not_utf8 (rw c.in-Ok-None.field-0-is at c.in-Ok-None.ensures);
  returns = c.put-in-Ok-None.ensures;
}

pub returns-in-Err : goal.returns-in-Err
returns-in-Err c = record {
  outcome = _;
  may_end = out_of_memory _ c.from.ensures;
  returns = c.put-in-Err.ensures;
}
