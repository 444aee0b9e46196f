use Rattle.std.proofs.Common.{◌≡◌, ℕ, List, ◌++◌, refl}
use Rattle.cc_base.proofs.WrittenTexts.{writes_same, writes_then}
use Rattle.cc_base.proofs.Stopped.{as_stopped, stops_before, writes_three}
use Rattle.cc_quote.specs.PosixQuote.{posix_quoted}
use Rattle.cc_registrations.specs.ElvishRegistration.{fixed_texts, registration_front}
use Rattle.cc_registrations.specs.declared.elvish.TheConstants.{FUNCTION_HEAD, REGISTRATION_BEGINS, SHELL_SET}
use Rattle.cc_registrations.proofs.elvish.write_front.Goals as goal

parts : (variable bin : List ℕ) →
    REGISTRATION_BEGINS.now ++ posix_quoted bin ++ FUNCTION_HEAD.now ++ variable ++ SHELL_SET.now
    ≡ registration_front variable bin
unfolding fixed_texts registration_front
parts variable bin = refl

pub returns-in_err-put_text : goal.returns-in_err-put_text
returns-in_err-put_text g c =
    as_stopped _ c.from_residual.ensures.1
    (writes_same _ _ (parts c.args.variable.now c.args.bin.now)
    (stops_before _ SHELL_SET.now (stops_before _ c.args.variable.now (stops_before _ FUNCTION_HEAD.now (stops_before _ (posix_quoted c.args.bin.now) c.in_err-put_text.ensures)))))

pub returns-in_err-put_posix_quoted : goal.returns-in_err-put_posix_quoted
returns-in_err-put_posix_quoted g c =
    as_stopped _ c.from_residual-in_err-put_posix_quoted.ensures.1
    (writes_same _ _ (parts c.args.variable.now c.args.bin.now)
    (stops_before _ _ (stops_before _ _ (stops_before _ _ (writes_then _ _ c.in_ok-put_text.ensures c.in_err-put_posix_quoted.ensures)))))

pub returns : goal.returns
returns g c =
    writes_same _ _ (parts c.args.variable.now c.args.bin.now)
    (writes_three _ _ _ _ (writes_then _ _ c.in_ok-put_text.ensures c.in_ok-put_posix_quoted.ensures) c.put_texts.ensures)
