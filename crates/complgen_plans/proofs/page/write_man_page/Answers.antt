use Rattle.std.proofs.Common.{sym}
use Rattle.std.proofs.lemmas.Result.{err_from_is_err_and}
use Rattle.complgen_scripts.proofs.WritingLemmas.{same}
use Rattle.complgen_plans.specs.Pages.{out_of_memory}
use Rattle.complgen_plans.proofs.PageLemmas.{page_failed, page_unread, page_written}
use Rattle.complgen_plans.proofs.page.write_man_page.Goals as goal

pub returns-in_err-command : goal.returns-in_err-command
returns-in_err-command g c =
    let p = err_from_is_err_and c.from_residual.result c.from_residual.ensures.1 in
    rw (p.1, p.2) (page_unread _ _ _ _ _ _ _ c.in_err-command.ensures)

pub returns-in_err-bin : goal.returns-in_err-bin
returns-in_err-bin g c =
    let p = err_from_is_err_and c.from_residual-in_err-bin.result c.from_residual-in_err-bin.ensures.1 in
    rw p.1 (out_of_memory _ _ p.2 (same _ _ _))

pub returns-in-Ok : goal.returns-in-Ok
returns-in-Ok g c =
    rw (sym c.in_ok-bin.ensures.ok) (page_written _ _ _ _ _ _ _ _ c.in_ok-command.ensures
    c.in-Ok.ensures.written c.in-Ok.ensures.reads)

pub returns : goal.returns
returns g c =
    rw (sym c.in_ok-bin.ensures.ok) (page_failed _ _ _ _ _ _ _ _ _ _ _ c.in_ok-command.ensures
    c.in-Err.ensures.written c.in-Err.ensures.built c.error_refusal.ensures)
