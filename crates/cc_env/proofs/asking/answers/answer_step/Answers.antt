use Rattle.cc_env.specs.Answers.{replied, runs}
use Rattle.cc_env.proofs.asking.answers.answer_step.Goals as goal

pub returns-in-Reply : goal.returns-in-Reply
returns-in-Reply g c = rw (c.in-Reply.is, c.text_answer.ensures) (replied _ c.text-text.ensures)

pub returns-in-Run : goal.returns-in-Run
returns-in-Run g c = rw c.in-Run.is (runs _)

pub returns-in-ReadLines : goal.returns-in-ReadLines
returns-in-ReadLines g c =
    rw c.in-ReadLines.is c.answer_over_lines-answer.ensures
