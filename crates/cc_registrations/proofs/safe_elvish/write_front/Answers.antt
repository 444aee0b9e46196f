use Rattle.std.proofs.Common.{◌≡◌, ℕ, List, ◌++◌, codes, map, refl}
use Rattle.cc_base.proofs.WrittenTexts.{writes_same, writes_then}
use Rattle.cc_base.specs.Joined.{joined}
use Rattle.cc_base.proofs.Stopped.{as_stopped, stops_before, writes_two}
use Rattle.cc_registrations.specs.Names.{elvish_quoted, identifier}
use Rattle.cc_registrations.specs.SafeElvish.{fixed_texts, registration_front}
use Rattle.cc_registrations.specs.declared.safe_elvish.TheConstants.{CALL_BEGINS, FUNCTION_HEAD, NAMES_BEGIN}
use Rattle.cc_registrations.proofs.safe_elvish.write_front.Goals as goal

parts : (variable : List ℕ) (bins : List (List ℕ)) →
    NAMES_BEGIN.now ++ joined (codes " ") (map elvish_quoted bins) ++ FUNCTION_HEAD.now ++ identifier variable ++ CALL_BEGINS.now
    ≡ registration_front variable bins
unfolding fixed_texts registration_front
parts variable bins = refl

pub returns-in_err-put_text : goal.returns-in_err-put_text
returns-in_err-put_text g c =
    as_stopped _ c.from_residual.ensures.1
    (writes_same _ _ (parts c.args.variable.now (map (λ bin. bin.now) c.args.bins.now))
    (stops_before _ CALL_BEGINS.now (stops_before _ (identifier c.args.variable.now) (stops_before _ FUNCTION_HEAD.now (stops_before _ (joined (codes " ") (map elvish_quoted (map (λ bin. bin.now) c.args.bins.now))) c.in_err-put_text.ensures)))))

pub returns-in_err-put_names : goal.returns-in_err-put_names
returns-in_err-put_names g c =
    as_stopped _ c.from_residual-in_err-put_names.ensures.1
    (writes_same _ _ (parts c.args.variable.now (map (λ bin. bin.now) c.args.bins.now))
    (stops_before _ _ (stops_before _ _ (stops_before _ _ (writes_then _ _ c.in_ok-put_text.ensures c.in_err-put_names.ensures)))))

pub returns-in_err-put_identifier_after : goal.returns-in_err-put_identifier_after
returns-in_err-put_identifier_after g c =
    as_stopped _ c.from_residual-in_err-put_identifier_after.ensures.1
    (writes_same _ _ (parts c.args.variable.now (map (λ bin. bin.now) c.args.bins.now))
    (stops_before _ _ (writes_two _ _ _ (writes_then _ _ c.in_ok-put_text.ensures c.in_ok-put_names.ensures) c.in_err-put_identifier_after.ensures)))

pub returns : goal.returns
returns g c =
    writes_same _ _ (parts c.args.variable.now (map (λ bin. bin.now) c.args.bins.now))
    (writes_then _ _ (writes_two _ _ _ (writes_then _ _ c.in_ok-put_text.ensures c.in_ok-put_names.ensures) c.in_ok-put_identifier_after.ensures) c.put_text-2.ensures)
