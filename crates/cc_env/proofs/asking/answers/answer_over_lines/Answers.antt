use Rattle.cc_env.specs.Answers.{out_of_memory, over_lines}
use Rattle.cc_env.proofs.asking.answers.answer_over_lines.Goals as goal

pub returns-in-Err : goal.returns-in-Err
returns-in-Err g c = rw c.in-Err.ensures.memory (out_of_memory _)

pub returns-in-Ok : goal.returns-in-Ok
returns-in-Ok g c =
    rw (c.text_answer.ensures, c.omits_space-no_space.ensures)
    (over_lines c.args.asked.now c.in-Ok.read _ c.in-Ok.ensures.ok c.text_over-text.ensures)
