use Rattle.cc_env.proofs.AnswerLemmas.{text_over_equal}
use Rattle.cc_env.proofs.asking.answers.text_over.Goals as goal

pub returns : goal.returns
returns g c = text_over_equal c.list_values.ensures c.text.ensures
