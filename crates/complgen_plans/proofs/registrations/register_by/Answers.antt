use Rattle.std.proofs.lemmas.Result.{err_from_is_err_and}
use Rattle.complgen_plans.proofs.RegisterLemmas.{register_failed, registered}
use Rattle.complgen_scripts.proofs.WritingLemmas.{ends_unread}
use Rattle.complgen_plans.proofs.registrations.register_by.Goals as goal

pub returns-in_err-command : goal.returns-in_err-command
returns-in_err-command g c =
    let p = err_from_is_err_and c.from_residual.result c.from_residual.ensures.1 in
    rw (p.1, p.2) (ends_unread _ _ _ _ _ _ _ _ c.in_err-command.ensures)

pub returns-in-Ok : goal.returns-in-Ok
returns-in-Ok g c =
    registered _ _ _ _ _ _ _ _ _ _ c.in_ok-command.ensures c.get_name-name.ensures
    c.in-Ok.ensures.written c.in-Ok.ensures.read_back

pub returns : goal.returns
returns g c =
    register_failed _ _ _ _ _ _ _ _ _ _ _ _ c.in_ok-command.ensures c.get_name-name.ensures
    c.in-Err.ensures.written c.in-Err.ensures.read_back c.error_refusal.ensures
