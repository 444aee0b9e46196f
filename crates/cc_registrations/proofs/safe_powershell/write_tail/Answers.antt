use Rattle.std.proofs.Common.{◌≡◌, ℕ, List, ◌++◌, refl}
use Rattle.cc_base.proofs.WrittenTexts.{writes_same, writes_then}
use Rattle.cc_base.proofs.Stopped.{as_stopped, stops_before}
use Rattle.cc_registrations.specs.Names.{identifier}
use Rattle.cc_registrations.specs.SafePowershell.{fixed_texts, registration_tail}
use Rattle.cc_registrations.specs.declared.safe_powershell.TheConstants.{CALL_ENDS, SCRIPT_ENDS}
use Rattle.cc_registrations.proofs.safe_powershell.write_tail.Goals as goal

parts : (variable : List ℕ) →
    CALL_ENDS.now ++ identifier variable ++ SCRIPT_ENDS.now
    ≡ registration_tail variable
unfolding fixed_texts registration_tail
parts variable = refl

pub returns-in_err-put_identifier_after : goal.returns-in_err-put_identifier_after
returns-in_err-put_identifier_after g c =
    as_stopped _ c.from_residual.ensures.1
    (writes_same _ _ (parts c.args.variable.now)
    (stops_before _ SCRIPT_ENDS.now c.in_err-put_identifier_after.ensures))

pub returns : goal.returns
returns g c =
    writes_same _ _ (parts c.args.variable.now)
    (writes_then _ _ c.in_ok-put_identifier_after.ensures c.put_text.ensures)
