use Rattle.std.proofs.Common.{◌∙◌, ap}
use Rattle.std.proofs.lemmas.Result.{err_from_is_err_and}
use Rattle.cc_env.specs.Wanted.{wanted_name}
use Rattle.complgen_live.specs.Prepared.{ready}
use Rattle.complgen_live.proofs.PreparedLemmas.{requests, undescribed, unfiled, unknown_named, unrequested}
use Rattle.complgen_live.proofs.prepared.prepare.Goals as goal

pub returns-in_default : goal.returns-in_default
returns-in_default c = unfiled _ c.args.file c.in_default.not-Some

pub returns-in_default-wanted_name : goal.returns-in_default-wanted_name
returns-in_default-wanted_name c =
    rw c.in-Some.is (unrequested c.args.env.now _ c.wanted_name.result
    (c.wanted_name.ensures ∙ ap wanted_name c.get.ensures) c.in_default-wanted_name.not-Some)

pub returns-in_err-known : goal.returns-in_err-known
returns-in_err-known c =
    let p = err_from_is_err_and c.from_residual.result c.from_residual.ensures.1 in
    rw (c.in-Some.is, p.1, p.2) (unknown_named c.args.env.now _ _ _ _
    (c.in-Some-wanted_name.ensures ∙ ap wanted_name c.get.ensures) c.safe-shells.ensures
    c.in_err-known.ensures.err.0 c.in_err-known.ensures.err.1)

pub returns-in_err-command : goal.returns-in_err-command
returns-in_err-command c =
    let p = err_from_is_err_and c.from_residual-in_err-command.result c.from_residual-in_err-command.ensures.1 in
    rw (c.in-Some.is, p.1, p.2) (undescribed c.args.env.now _ _ _
    (requests c.args.env.now _ _ _ (c.in-Some-wanted_name.ensures ∙ ap wanted_name c.get.ensures)
    c.safe-shells.ensures c.in_ok-known.ensures.ok) c.in_err-command.ensures)

pub returns : goal.returns
returns c =
    rw c.in-Some.is (ready _ _ _
    (requests c.args.env.now _ _ _ (c.in-Some-wanted_name.ensures ∙ ap wanted_name c.get.ensures)
    c.safe-shells.ensures c.in_ok-known.ensures.ok) c.in_ok-command.ensures)
