use Rattle.std.proofs.Common.{◌≡◌, ℕ, List, ◌++◌, refl}
use Rattle.cc_base.proofs.WrittenTexts.{writes_same, writes_then}
use Rattle.cc_base.proofs.Stopped.{as_stopped, stops_before}
use Rattle.cc_quote.specs.PosixQuote.{posix_quoted}
use Rattle.cc_registrations.specs.ZshRegistration.{registration_front, registration_tail, zsh_registration}
use Rattle.cc_registrations.proofs.ZshReadings.{zsh_reads}
use Rattle.cc_registrations.proofs.zsh.write_zsh.Goals as goal

parts : (variable name bin completer : List ℕ) →
    registration_front variable name bin ++ posix_quoted completer ++ registration_tail name bin
    ≡ zsh_registration variable name bin completer
unfolding zsh_registration
parts variable name bin completer = refl

pub returns-in_err-write_front-clause-written : goal.returns-in_err-write_front-clause-written
returns-in_err-write_front-clause-written g c =
    as_stopped _ c.from_residual.ensures.1
    (writes_same _ _ (parts c.args.variable.now c.args.name.now c.args.bin.now c.args.completer.now)
    (stops_before _ _ (stops_before _ _ c.in_err-write_front.ensures)))

pub returns-in_err-put_posix_quoted-clause-written : goal.returns-in_err-put_posix_quoted-clause-written
returns-in_err-put_posix_quoted-clause-written g c =
    as_stopped _ c.from_residual-in_err-put_posix_quoted.ensures.1
    (writes_same _ _ (parts c.args.variable.now c.args.name.now c.args.bin.now c.args.completer.now)
    (stops_before _ _ (writes_then _ _ c.in_ok-write_front.ensures c.in_err-put_posix_quoted.ensures)))

pub returns-clause-written : goal.returns-clause-written
returns-clause-written g c =
    writes_same _ _ (parts c.args.variable.now c.args.name.now c.args.bin.now c.args.completer.now)
    (writes_then _ _ (writes_then _ _ c.in_ok-write_front.ensures c.in_ok-put_posix_quoted.ensures) c.write_tail.ensures)

pub returns-in_err-write_front-clause-read_back : goal.returns-in_err-write_front-clause-read_back
returns-in_err-write_front-clause-read_back g c = zsh_reads _ _ _ _

pub returns-in_err-put_posix_quoted-clause-read_back : goal.returns-in_err-put_posix_quoted-clause-read_back
returns-in_err-put_posix_quoted-clause-read_back g c = zsh_reads _ _ _ _

pub returns-clause-read_back : goal.returns-clause-read_back
returns-clause-read_back g c = zsh_reads _ _ _ _
