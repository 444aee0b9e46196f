use Rattle.std.proofs.Common.{◌≡◌, ℕ, List, ◌++◌, refl}
use Rattle.cc_base.proofs.WrittenTexts.{writes_same, writes_then}
use Rattle.cc_base.proofs.Stopped.{as_stopped, stops_before}
use Rattle.cc_quote.specs.PosixQuote.{posix_quoted}
use Rattle.cc_registrations.specs.Names.{underscored}
use Rattle.cc_registrations.specs.ZshRegistration.{call_ends, fixed_texts, registration_tail}
use Rattle.cc_registrations.specs.declared.zsh.TheConstants.{NAME_ENDS, REGISTRATION_ENDS}
use Rattle.cc_registrations.proofs.zsh.write_tail.Goals as goal

parts : (name bin : List ℕ) →
    call_ends ++ underscored name ++ NAME_ENDS.now ++ posix_quoted bin ++ REGISTRATION_ENDS.now
    ≡ registration_tail name bin
unfolding fixed_texts registration_tail
parts name bin = refl

pub returns-in_err-put_text : goal.returns-in_err-put_text
returns-in_err-put_text g c =
    as_stopped _ c.from_residual.ensures.1
    (writes_same _ _ (parts c.args.name.now c.args.bin.now)
    (stops_before _ _ (stops_before _ _ (stops_before _ _ (stops_before _ _ (writes_same _ _ c.call_ends.ensures c.in_err-put_text.ensures))))))

pub returns-in_err-put_underscored : goal.returns-in_err-put_underscored
returns-in_err-put_underscored g c =
    as_stopped _ c.from_residual-in_err-put_underscored.ensures.1
    (writes_same _ _ (parts c.args.name.now c.args.bin.now)
    (stops_before _ _ (stops_before _ _ (stops_before _ _ (writes_then _ _ (writes_same _ _ c.call_ends.ensures c.in_ok-put_text.ensures) c.in_err-put_underscored.ensures)))))

pub returns-in_err-put_text-2 : goal.returns-in_err-put_text-2
returns-in_err-put_text-2 g c =
    as_stopped _ c.from_residual-in_err-put_text-2.ensures.1
    (writes_same _ _ (parts c.args.name.now c.args.bin.now)
    (stops_before _ _ (stops_before _ _ (writes_then _ _ (writes_then _ _ (writes_same _ _ c.call_ends.ensures c.in_ok-put_text.ensures) c.in_ok-put_underscored.ensures) c.in_err-put_text-2.ensures))))

pub returns-in_err-put_posix_quoted : goal.returns-in_err-put_posix_quoted
returns-in_err-put_posix_quoted g c =
    as_stopped _ c.from_residual-in_err-put_posix_quoted.ensures.1
    (writes_same _ _ (parts c.args.name.now c.args.bin.now)
    (stops_before _ _ (writes_then _ _ (writes_then _ _ (writes_then _ _ (writes_same _ _ c.call_ends.ensures c.in_ok-put_text.ensures) c.in_ok-put_underscored.ensures) c.in_ok-put_text-2.ensures) c.in_err-put_posix_quoted.ensures)))

pub returns : goal.returns
returns g c =
    writes_same _ _ (parts c.args.name.now c.args.bin.now)
    (writes_then _ _ (writes_then _ _ (writes_then _ _ (writes_then _ _ (writes_same _ _ c.call_ends.ensures c.in_ok-put_text.ensures) c.in_ok-put_underscored.ensures) c.in_ok-put_text-2.ensures) c.in_ok-put_posix_quoted.ensures) c.put_text-3.ensures)
