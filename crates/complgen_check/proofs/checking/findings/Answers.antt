use Rattle.std.proofs.Common.{subst}
use Rattle.std.proofs.lemmas.Result.{IfOk-weaker}
use Rattle.complgen_check.specs.FileChecks.{Checks}
use Rattle.complgen_check.specs.declared.errors.checking.Checked.{Checked}
use Rattle.complgen_check.specs.Checking.{described, errors}
use Rattle.complgen_check.proofs.checking.findings.Goals as goal

pub returns-in-Errors : goal.returns-in-Errors
returns-in-Errors c =
    let checks = subst (λ (checked : Checked). Checks c.args.bytes.now checked) c.in-Errors.is
    c.in_ok-errors.ensures in
    errors checks.1 checks.0

pub returns : goal.returns
returns c =
    let checks = subst (λ (checked : Checked). Checks c.args.bytes.now checked) c.in-Tree.is
    c.in_ok-errors.ensures in
    IfOk-weaker c.with_warnings.result _ _
    (λ found warns. described c.in-Tree.command checks.1.json c.in-Tree.doubles.items checks.0
    checks.1.spells checks.1.each warns)
    c.with_warnings.ensures
