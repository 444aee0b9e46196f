use Rattle.cc_env.proofs.AnswerLemmas.{answered_built, asked_failed, out_of_memory_at}
use Rattle.cc_env.proofs.asking.answers.answer_call.Goals as goal

pub returns-in-Err : goal.returns-in-Err
returns-in-Err g c = asked_failed _ _ _ _ _ c.words_after-words.ensures c.in-Err.ensures.errors

pub returns-in-Err-next_step : goal.returns-in-Err-next_step
returns-in-Err-next_step g c = out_of_memory_at _ _ _

pub returns-in-Ok-next_step : goal.returns-in-Ok-next_step
returns-in-Ok-next_step g c =
    answered_built _ _ _ _ _ _ _ _ _ c.words_after-words.ensures c.in-Ok.ensures.asks
    c.in-Ok.ensures.built c.in-Ok.ensures.whole c.behind_name-typed.ensures
    c.in-Ok-next_step.ensures c.answer_step.ensures
