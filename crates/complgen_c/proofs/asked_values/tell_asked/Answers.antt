use Rattle.complgen_c.proofs.AskedLemmas.{refusal_told, values_told}
use Rattle.complgen_c.proofs.asked_values.tell_asked.Goals as goal

pub returns-in-Ok : goal.returns-in-Ok
returns-in-Ok c =
    values_told c.args.command c.args.words.now _ _ c.saturating_sub.ensures _ _ c.in-Ok.ensures.asked
    c.in-Ok.ensures.built (rw c.as_slice.ensures.value at c.tell_values.ensures)

pub returns-in-Err : goal.returns-in-Err
returns-in-Err c =
    refusal_told c.args.command c.args.words.now _ _ c.saturating_sub.ensures _ _ c.in-Err.ensures.errors
    c.error_refusal.ensures
