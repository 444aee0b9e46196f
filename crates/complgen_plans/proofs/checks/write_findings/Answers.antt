use Rattle.std.proofs.Common.{ap}
use Rattle.std.proofs.lemmas.Result.{err_from_is_err_and}
use Rattle.std.specs.Option.{option_copied}
use Rattle.complgen_plans.proofs.FindingLemmas.{findings_failed, findings_sound, findings_told}
use Rattle.complgen_plans.proofs.FindingLemmas.{findings_unread}
use Rattle.complgen_plans.proofs.checks.write_findings.Goals as goal

pub returns-in_default-clause-ends : goal.returns-in_default-clause-ends
returns-in_default-clause-ends g c =
    findings_unread _ _ _ _ _ _ _ _ (ap option_copied c.in_default.is) c.unreadable.ensures

pub returns-in_err-is_clean-clause-ends : goal.returns-in_err-is_clean-clause-ends
returns-in_err-is_clean-clause-ends g c =
    let p = err_from_is_err_and c.from_residual.result c.from_residual.ensures.1 in
    rw (p.1, p.2) (findings_failed _ _ _ _ _ _ _ _ _ _ _ (ap option_copied c.in-Some.is)
    c.report_of.ensures c.in_err-is_clean.ensures.ends)

pub returns-clause-ends : goal.returns-clause-ends
returns-clause-ends g c =
    findings_told _ _ _ _ _ _ _ _ _ _ _ _ (ap option_copied c.in-Some.is) c.report_of.ensures
    c.status_of.ensures c.in_ok-is_clean.ensures.ends

pub returns-clause-sound : goal.returns-clause-sound
returns-clause-sound g c =
    findings_sound _ _ _ _ _ (ap option_copied c.in-Some.is) c.status_of.ensures
    c.in_ok-is_clean.ensures.sound
