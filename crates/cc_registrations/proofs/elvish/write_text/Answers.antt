use Rattle.std.proofs.Common.{◌≡◌, ℕ, List, ◌++◌, refl}
use Rattle.cc_base.proofs.WrittenTexts.{writes_same, writes_then}
use Rattle.cc_base.proofs.Stopped.{as_stopped, stops_before}
use Rattle.cc_quote.specs.PosixQuote.{posix_quoted}
use Rattle.cc_registrations.specs.ElvishRegistration.{elvish_registration, fixed_texts, registration_front}
use Rattle.cc_registrations.specs.declared.elvish.TheConstants.{REGISTRATION_ENDS}
use Rattle.cc_registrations.proofs.elvish.write_text.Goals as goal

parts : (variable bin completer : List ℕ) →
    registration_front variable bin ++ posix_quoted completer ++ REGISTRATION_ENDS.now
    ≡ elvish_registration variable bin completer
unfolding elvish_registration fixed_texts
parts variable bin completer = refl

pub returns-in_err-write_front : goal.returns-in_err-write_front
returns-in_err-write_front g c =
    as_stopped _ c.from_residual.ensures.1
    (writes_same _ _ (parts c.args.variable.now c.args.bin.now c.args.completer.now)
    (stops_before _ _ (stops_before _ _ c.in_err-write_front.ensures)))

pub returns-in_err-put_posix_quoted : goal.returns-in_err-put_posix_quoted
returns-in_err-put_posix_quoted g c =
    as_stopped _ c.from_residual-in_err-put_posix_quoted.ensures.1
    (writes_same _ _ (parts c.args.variable.now c.args.bin.now c.args.completer.now)
    (stops_before _ _ (writes_then _ _ c.in_ok-write_front.ensures c.in_err-put_posix_quoted.ensures)))

pub returns : goal.returns
returns g c =
    writes_same _ _ (parts c.args.variable.now c.args.bin.now c.args.completer.now)
    (writes_then _ _ (writes_then _ _ c.in_ok-write_front.ensures c.in_ok-put_posix_quoted.ensures) c.put_text.ensures)
