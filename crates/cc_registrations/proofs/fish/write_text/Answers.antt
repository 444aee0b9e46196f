use Rattle.std.proofs.Common.{◌≡◌, ℕ, List, ◌++◌, refl}
use Rattle.cc_base.proofs.WrittenTexts.{writes_same, writes_then}
use Rattle.cc_base.proofs.Stopped.{as_stopped, stops_before}
use Rattle.cc_quote.specs.FishQuote.{fish_quoted_for_eval}
use Rattle.cc_registrations.specs.FishRegistration.{fish_registration, fixed_texts, registration_front}
use Rattle.cc_registrations.specs.declared.fish.TheConstants.{REGISTRATION_ENDS}
use Rattle.cc_registrations.proofs.fish.write_text.Goals as goal

parts : (variable bin completer : List ℕ) →
    registration_front variable bin ++ fish_quoted_for_eval completer ++ REGISTRATION_ENDS.now
    ≡ fish_registration variable bin completer
unfolding fish_registration fixed_texts
parts variable bin completer = refl

pub returns-in_err-write_front : goal.returns-in_err-write_front
returns-in_err-write_front g c =
    as_stopped _ c.from_residual.ensures.1
    (writes_same _ _ (parts c.args.variable.now c.args.bin.now c.args.completer.now)
    (stops_before _ _ (stops_before _ _ c.in_err-write_front.ensures)))

pub returns-in_err-put_fish_quoted_for_eval : goal.returns-in_err-put_fish_quoted_for_eval
returns-in_err-put_fish_quoted_for_eval g c =
    as_stopped _ c.from_residual-in_err-put_fish_quoted_for_eval.ensures.1
    (writes_same _ _ (parts c.args.variable.now c.args.bin.now c.args.completer.now)
    (stops_before _ _ (writes_then _ _ c.in_ok-write_front.ensures c.in_err-put_fish_quoted_for_eval.ensures)))

pub returns : goal.returns
returns g c =
    writes_same _ _ (parts c.args.variable.now c.args.bin.now c.args.completer.now)
    (writes_then _ _ (writes_then _ _ c.in_ok-write_front.ensures c.in_ok-put_fish_quoted_for_eval.ensures) c.put_text.ensures)
