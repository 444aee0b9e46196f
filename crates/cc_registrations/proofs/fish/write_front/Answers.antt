use Rattle.std.proofs.Common.{◌≡◌, ℕ, List, ◌++◌, refl}
use Rattle.cc_base.proofs.WrittenTexts.{writes_same, writes_then}
use Rattle.cc_base.proofs.Stopped.{as_stopped, stops_before, writes_three}
use Rattle.cc_quote.specs.FishQuote.{fish_quoted}
use Rattle.cc_registrations.specs.FishRegistration.{fixed_texts, registration_front}
use Rattle.cc_registrations.specs.declared.fish.TheConstants.{ARGUMENTS_BEGIN, REGISTRATION_BEGINS, SHELL_SET}
use Rattle.cc_registrations.proofs.fish.write_front.Goals as goal

parts : (variable bin : List ℕ) →
    REGISTRATION_BEGINS.now ++ fish_quoted bin ++ ARGUMENTS_BEGIN.now ++ variable ++ SHELL_SET.now
    ≡ registration_front variable bin
unfolding fixed_texts registration_front
parts variable bin = refl

pub returns-in_err-put_text : goal.returns-in_err-put_text
returns-in_err-put_text g c =
    as_stopped _ c.from_residual.ensures.1
    (writes_same _ _ (parts c.args.variable.now c.args.bin.now)
    (stops_before _ SHELL_SET.now (stops_before _ c.args.variable.now (stops_before _ ARGUMENTS_BEGIN.now (stops_before _ (fish_quoted c.args.bin.now) c.in_err-put_text.ensures)))))

pub returns-in_err-put_fish_quoted : goal.returns-in_err-put_fish_quoted
returns-in_err-put_fish_quoted g c =
    as_stopped _ c.from_residual-in_err-put_fish_quoted.ensures.1
    (writes_same _ _ (parts c.args.variable.now c.args.bin.now)
    (stops_before _ _ (stops_before _ _ (stops_before _ _ (writes_then _ _ c.in_ok-put_text.ensures c.in_err-put_fish_quoted.ensures)))))

pub returns : goal.returns
returns g c =
    writes_same _ _ (parts c.args.variable.now c.args.bin.now)
    (writes_three _ _ _ _ (writes_then _ _ c.in_ok-put_text.ensures c.in_ok-put_fish_quoted.ensures) c.put_texts.ensures)
