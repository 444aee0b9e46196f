use Rattle.std.proofs.Common.{sym}
use Rattle.std.proofs.lemmas.Result.{err_from_is_err_and}
use Rattle.complgen_scripts.proofs.ScriptLemmas.{script_failed, script_written}
use Rattle.complgen_scripts.proofs.WritingLemmas.{ends_unread, ends_unwritten}
use Rattle.complgen_scripts.proofs.one_script.script_by.Goals as goal

pub returns-in_err-command-clause-ends : goal.returns-in_err-command-clause-ends
returns-in_err-command-clause-ends g c =
    let p = err_from_is_err_and c.from_residual.result c.from_residual.ensures.1 in
    rw (p.1, p.2) (ends_unread _ _ _ _ _ _ _ _ c.in_err-command.ensures)

pub returns-in-Err-clause-ends : goal.returns-in-Err-clause-ends
returns-in-Err-clause-ends g c =
    ends_unwritten _ _ _ _ _ _ _ _ _ c.in_ok-command.ensures c.from.ensures

pub returns-in-Ok-generate-clause-ends : goal.returns-in-Ok-generate-clause-ends
returns-in-Ok-generate-clause-ends g c =
    rw (sym c.in-Ok.ensures.ok) (script_written _ _ _ _ _ _ _ _ c.in_ok-command.ensures c.in-Ok-generate.ensures.written)

pub returns-in-Err-generate-clause-ends : goal.returns-in-Err-generate-clause-ends
returns-in-Err-generate-clause-ends g c =
    rw (sym c.in-Ok.ensures.ok) (script_failed _ _ _ _ _ _ _ _ _ _ c.in_ok-command.ensures c.in-Err-generate.ensures.written c.error_refusal.ensures)

pub returns-in-Ok-generate-clause-read_back : goal.returns-in-Ok-generate-clause-read_back
returns-in-Ok-generate-clause-read_back g c =
    rw (sym c.in-Ok.ensures.ok)
    (record { tree = _; held = c.in_ok-command.ensures; reads = c.in-Ok-generate.ensures.plain })
