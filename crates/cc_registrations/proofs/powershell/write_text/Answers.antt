use Rattle.std.proofs.Common.{◌≡◌, ℕ, List, ◌++◌, refl}
use Rattle.cc_base.proofs.WrittenTexts.{writes_same, writes_then}
use Rattle.cc_base.proofs.Stopped.{as_stopped, stops_before}
use Rattle.cc_quote.specs.PosixQuote.{posix_quoted}
use Rattle.cc_registrations.specs.PowershellRegistration.{call, powershell_registration, registration_head, registration_tail}
use Rattle.cc_registrations.proofs.powershell.write_text.Goals as goal

parts : (variable bin completer : List ℕ) →
    registration_head bin ++ call variable ++ posix_quoted completer ++ registration_tail variable
    ≡ powershell_registration variable bin completer
unfolding powershell_registration
parts variable bin completer = refl

pub returns-in_err-write_head : goal.returns-in_err-write_head
returns-in_err-write_head g c =
    as_stopped _ c.from_residual.ensures.1
    (writes_same _ _ (parts c.args.variable.now c.args.bin.now c.args.completer.now)
    (stops_before _ _ (stops_before _ _ (stops_before _ _ c.in_err-write_head.ensures))))

pub returns-in_err-write_call : goal.returns-in_err-write_call
returns-in_err-write_call g c =
    as_stopped _ c.from_residual-in_err-write_call.ensures.1
    (writes_same _ _ (parts c.args.variable.now c.args.bin.now c.args.completer.now)
    (stops_before _ _ (stops_before _ _ (writes_then _ _ c.in_ok-write_head.ensures c.in_err-write_call.ensures))))

pub returns-in_err-put_posix_quoted : goal.returns-in_err-put_posix_quoted
returns-in_err-put_posix_quoted g c =
    as_stopped _ c.from_residual-in_err-put_posix_quoted.ensures.1
    (writes_same _ _ (parts c.args.variable.now c.args.bin.now c.args.completer.now)
    (stops_before _ _ (writes_then _ _ (writes_then _ _ c.in_ok-write_head.ensures c.in_ok-write_call.ensures) c.in_err-put_posix_quoted.ensures)))

pub returns-in_err-write_tail : goal.returns-in_err-write_tail
returns-in_err-write_tail g c =
    as_stopped _ c.from_residual-in_err-write_tail.ensures.1
    (writes_same _ _ (parts c.args.variable.now c.args.bin.now c.args.completer.now)
    (writes_then _ _ (writes_then _ _ (writes_then _ _ c.in_ok-write_head.ensures c.in_ok-write_call.ensures) c.in_ok-put_posix_quoted.ensures) c.in_err-write_tail.ensures))

pub returns : goal.returns
returns g c =
    writes_same _ _ (parts c.args.variable.now c.args.bin.now c.args.completer.now)
    (writes_then _ _ (writes_then _ _ (writes_then _ _ c.in_ok-write_head.ensures c.in_ok-write_call.ensures) c.in_ok-put_posix_quoted.ensures) c.in_ok-write_tail.ensures)
