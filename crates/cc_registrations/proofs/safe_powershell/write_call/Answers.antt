use Rattle.std.proofs.Common.{◌≡◌, ℕ, List, ◌++◌, refl}
use Rattle.cc_base.proofs.WrittenTexts.{writes_same, writes_then}
use Rattle.cc_base.proofs.Stopped.{as_stopped, stops_before, writes_two}
use Rattle.cc_registrations.specs.Names.{identifier}
use Rattle.cc_registrations.specs.SafePowershell.{call, fixed_texts}
use Rattle.cc_registrations.specs.declared.safe_powershell.TheConstants.{CALL_BEGINS, VARIABLE_KEPT}
use Rattle.cc_registrations.proofs.safe_powershell.write_call.Goals as goal

parts : (variable : List ℕ) →
    identifier variable ++ VARIABLE_KEPT.now ++ identifier variable ++ CALL_BEGINS.now
    ≡ call variable
unfolding call fixed_texts
parts variable = refl

pub returns-in_err-put_identifier : goal.returns-in_err-put_identifier
returns-in_err-put_identifier g c =
    as_stopped _ c.from_residual.ensures.1
    (writes_same _ _ (parts c.args.variable.now)
    (stops_before _ _ (stops_before _ _ (stops_before _ _ c.in_err-put_identifier.ensures))))

pub returns-in_err-put_identifier_after : goal.returns-in_err-put_identifier_after
returns-in_err-put_identifier_after g c =
    as_stopped _ c.from_residual-in_err-put_identifier_after.ensures.1
    (writes_same _ _ (parts c.args.variable.now)
    (stops_before _ _ (writes_two _ _ _ c.in_ok-put_identifier.ensures c.in_err-put_identifier_after.ensures)))

pub returns : goal.returns
returns g c =
    writes_same _ _ (parts c.args.variable.now)
    (writes_then _ _ (writes_two _ _ _ c.in_ok-put_identifier.ensures c.in_ok-put_identifier_after.ensures) c.put_text.ensures)
