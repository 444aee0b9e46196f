use Rattle.std.proofs.Common.{◌≡◌, ℕ, List, ◌++◌, refl}
use Rattle.cc_base.proofs.WrittenTexts.{writes_same, writes_then}
use Rattle.cc_base.proofs.Stopped.{as_stopped, stops_before, writes_two}
use Rattle.cc_quote.specs.PosixQuote.{posix_quoted}
use Rattle.cc_registrations.specs.PowershellRegistration.{fixed_texts, registration_head}
use Rattle.cc_registrations.specs.declared.powershell.TheConstants.{ENVIRONMENT, REGISTRATION_BEGINS, SCRIPT_HEAD}
use Rattle.cc_registrations.proofs.powershell.write_head.Goals as goal

parts : (bin : List ℕ) →
    REGISTRATION_BEGINS.now ++ posix_quoted bin ++ SCRIPT_HEAD.now ++ ENVIRONMENT.now
    ≡ registration_head bin
unfolding fixed_texts registration_head
parts bin = refl

pub returns-in_err-put_text : goal.returns-in_err-put_text
returns-in_err-put_text g c =
    as_stopped _ c.from_residual.ensures.1
    (writes_same _ _ (parts c.args.bin.now)
    (stops_before _ ENVIRONMENT.now (stops_before _ SCRIPT_HEAD.now (stops_before _ (posix_quoted c.args.bin.now) c.in_err-put_text.ensures))))

pub returns-in_err-put_posix_quoted : goal.returns-in_err-put_posix_quoted
returns-in_err-put_posix_quoted g c =
    as_stopped _ c.from_residual-in_err-put_posix_quoted.ensures.1
    (writes_same _ _ (parts c.args.bin.now)
    (stops_before _ _ (stops_before _ _ (writes_then _ _ c.in_ok-put_text.ensures c.in_err-put_posix_quoted.ensures))))

pub returns : goal.returns
returns g c =
    writes_same _ _ (parts c.args.bin.now)
    (writes_two _ _ _ (writes_then _ _ c.in_ok-put_text.ensures c.in_ok-put_posix_quoted.ensures) c.put_texts.ensures)
