use Rattle.std.proofs.Common.{◌≡◌, ℕ, List, ◌++◌, map, refl}
use Rattle.cc_base.proofs.WrittenTexts.{writes_same, writes_then}
use Rattle.cc_base.proofs.Stopped.{as_stopped, stops_before}
use Rattle.cc_registrations.specs.Names.{powershell_quoted}
use Rattle.cc_registrations.specs.SafePowershell.{call, registration_head, registration_tail, safe_powershell}
use Rattle.cc_registrations.proofs.safe_powershell.write_text.Goals as goal

parts : (variable name : List ℕ) (bins : List (List ℕ)) (completer : List ℕ) →
    registration_head bins ++ call variable ++ powershell_quoted completer ++ registration_tail variable
    ≡ safe_powershell variable name bins completer
unfolding safe_powershell
parts variable name bins completer = refl

pub returns-in_err-write_head : goal.returns-in_err-write_head
returns-in_err-write_head g c =
    as_stopped _ c.from_residual.ensures.1
    (writes_same _ _ (parts c.args.variable.now c.args.name.now (map (λ bin. bin.now) c.args.bins.now) c.args.completer.now)
    (stops_before _ _ (stops_before _ _ (stops_before _ _ c.in_err-write_head.ensures))))

pub returns-in_err-write_call : goal.returns-in_err-write_call
returns-in_err-write_call g c =
    as_stopped _ c.from_residual-in_err-write_call.ensures.1
    (writes_same _ _ (parts c.args.variable.now c.args.name.now (map (λ bin. bin.now) c.args.bins.now) c.args.completer.now)
    (stops_before _ _ (stops_before _ _ (writes_then _ _ c.in_ok-write_head.ensures c.in_err-write_call.ensures))))

pub returns-in_err-put_quoted : goal.returns-in_err-put_quoted
returns-in_err-put_quoted g c =
    as_stopped _ c.from_residual-in_err-put_quoted.ensures.1
    (writes_same _ _ (parts c.args.variable.now c.args.name.now (map (λ bin. bin.now) c.args.bins.now) c.args.completer.now)
    (stops_before _ _ (writes_then _ _ (writes_then _ _ c.in_ok-write_head.ensures c.in_ok-write_call.ensures) c.in_err-put_quoted.ensures)))

pub returns-in_err-write_tail : goal.returns-in_err-write_tail
returns-in_err-write_tail g c =
    as_stopped _ c.from_residual-in_err-write_tail.ensures.1
    (writes_same _ _ (parts c.args.variable.now c.args.name.now (map (λ bin. bin.now) c.args.bins.now) c.args.completer.now)
    (writes_then _ _ (writes_then _ _ (writes_then _ _ c.in_ok-write_head.ensures c.in_ok-write_call.ensures) c.in_ok-put_quoted.ensures) c.in_err-write_tail.ensures))

pub returns : goal.returns
returns g c =
    writes_same _ _ (parts c.args.variable.now c.args.name.now (map (λ bin. bin.now) c.args.bins.now) c.args.completer.now)
    (writes_then _ _ (writes_then _ _ (writes_then _ _ c.in_ok-write_head.ensures c.in_ok-write_call.ensures) c.in_ok-put_quoted.ensures) c.in_ok-write_tail.ensures)
