use Rattle.complgen_c.specs.AskedValues.{no_tree, not_utf8, out_of_memory}
use Rattle.complgen_c.proofs.AskedLemmas.{texts_told}
use Rattle.complgen_c.proofs.asked_values.make_asked.Goals as goal

pub returns-in-Ok-None : goal.returns-in-Ok-None
returns-in-Ok-None c = not_utf8 (rw c.in-Ok-None.field-0-is at c.in-Ok-None.ensures)

pub returns-in-Err : goal.returns-in-Err
returns-in-Err c = out_of_memory _ c.from.ensures

pub returns-in-Ok : goal.returns-in-Ok
returns-in-Ok c =
    texts_told c.in-Ok.command c.in-Ok-Some.words.items c.args.tree.now _ _
    (rw c.in-Ok-Some.field-0-is at c.in-Ok-Some.ensures) c.in-Ok.ensures
    (rw c.as_slice.ensures.value at c.tell_asked.ensures)

pub returns : goal.returns
returns c = no_tree _ c.in-Err-described.ensures
