use Rattle.std.proofs.Common.{◌≡◌, ℕ, List, ◌++◌, map, refl}
use Rattle.cc_base.proofs.WrittenTexts.{writes_same, writes_then}
use Rattle.cc_base.proofs.Stopped.{as_stopped, stops_before}
use Rattle.cc_registrations.specs.Names.{elvish_quoted}
use Rattle.cc_registrations.specs.SafeElvish.{fixed_texts, registration_front, safe_elvish}
use Rattle.cc_registrations.specs.declared.safe_elvish.TheConstants.{CALL_ENDS}
use Rattle.cc_registrations.proofs.safe_elvish.write_text.Goals as goal

parts : (variable name : List ℕ) (bins : List (List ℕ)) (completer : List ℕ) →
    registration_front variable bins ++ elvish_quoted completer ++ CALL_ENDS.now
    ≡ safe_elvish variable name bins completer
unfolding fixed_texts safe_elvish
parts variable name bins completer = refl

pub returns-in_err-write_front : goal.returns-in_err-write_front
returns-in_err-write_front g c =
    as_stopped _ c.from_residual.ensures.1
    (writes_same _ _ (parts c.args.variable.now c.args.name.now (map (λ bin. bin.now) c.args.bins.now) c.args.completer.now)
    (stops_before _ _ (stops_before _ _ c.in_err-write_front.ensures)))

pub returns-in_err-put_quoted : goal.returns-in_err-put_quoted
returns-in_err-put_quoted g c =
    as_stopped _ c.from_residual-in_err-put_quoted.ensures.1
    (writes_same _ _ (parts c.args.variable.now c.args.name.now (map (λ bin. bin.now) c.args.bins.now) c.args.completer.now)
    (stops_before _ _ (writes_then _ _ c.in_ok-write_front.ensures c.in_err-put_quoted.ensures)))

pub returns : goal.returns
returns g c =
    writes_same _ _ (parts c.args.variable.now c.args.name.now (map (λ bin. bin.now) c.args.bins.now) c.args.completer.now)
    (writes_then _ _ (writes_then _ _ c.in_ok-write_front.ensures c.in_ok-put_quoted.ensures) c.put_text.ensures)
