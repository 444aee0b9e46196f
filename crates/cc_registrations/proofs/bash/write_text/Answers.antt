use Rattle.std.proofs.Common.{◌≡◌, ℕ, List, ◌++◌, refl}
use Rattle.cc_base.proofs.WrittenTexts.{writes_same, writes_then}
use Rattle.cc_base.proofs.Stopped.{as_stopped, stops_before}
use Rattle.cc_quote.specs.BashDouble.{bash_doubled}
use Rattle.cc_registrations.specs.BashRegistration.{bash_registration, registration_front, registration_tail}
use Rattle.cc_registrations.proofs.bash.write_text.Goals as goal

parts : (variable name bin completer : List ℕ) →
    registration_front variable name ++ bash_doubled completer ++ registration_tail name bin
    ≡ bash_registration variable name bin completer
unfolding bash_registration
parts variable name bin completer = refl

pub returns-in_err-write_front-clause-written : goal.returns-in_err-write_front-clause-written
returns-in_err-write_front-clause-written g c =
    as_stopped _ c.from_residual.ensures.1
    (writes_same _ _ (parts c.args.variable.now c.args.name.now c.args.bin.now c.args.completer.now)
    (stops_before _ _ (stops_before _ _ c.in_err-write_front.ensures)))

pub returns-in_err-put_escaped-clause-written : goal.returns-in_err-put_escaped-clause-written
returns-in_err-put_escaped-clause-written g c =
    as_stopped _ c.from_residual-in_err-put_escaped.ensures.1
    (writes_same _ _ (parts c.args.variable.now c.args.name.now c.args.bin.now c.args.completer.now)
    (stops_before _ _ (writes_then _ _ c.in_ok-write_front.ensures c.in_err-put_escaped.ensures)))

pub returns-in_err-write_tail-clause-written : goal.returns-in_err-write_tail-clause-written
returns-in_err-write_tail-clause-written g c =
    as_stopped _ c.from_residual-in_err-write_tail.ensures.1
    (writes_same _ _ (parts c.args.variable.now c.args.name.now c.args.bin.now c.args.completer.now)
    (writes_then _ _ (writes_then _ _ c.in_ok-write_front.ensures c.in_ok-put_escaped.ensures) c.in_err-write_tail.ensures))

pub returns-clause-written : goal.returns-clause-written
returns-clause-written g c =
    writes_same _ _ (parts c.args.variable.now c.args.name.now c.args.bin.now c.args.completer.now)
    (writes_then _ _ (writes_then _ _ c.in_ok-write_front.ensures c.in_ok-put_escaped.ensures) c.in_ok-write_tail.ensures)
