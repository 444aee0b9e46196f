use Rattle.std.proofs.Common.{◌≡◌, ℕ, List, ◌++◌, ap₂, refl}
use Rattle.cc_base.proofs.WrittenTexts.{writes_same, writes_then}
use Rattle.cc_base.proofs.Stopped.{as_stopped, stops_before, writes_two}
use Rattle.cc_registrations.specs.Names.{identifier}
use Rattle.cc_registrations.specs.SafeText.{function_front}
use Rattle.cc_registrations.specs.declared.safe_text.SafeFrame.{SafeFrame}
use Rattle.cc_registrations.proofs.safe_text.write_front.Goals as goal

parts : (frame : SafeFrame) (variable name : List ℕ) →
    frame.function_begins ++ identifier name ++ frame.function_head ++ identifier variable ++ frame.call_begins
    ≡ function_front frame variable name
unfolding function_front
parts frame variable name = refl

named : (before text one other : List ℕ) → before ≡ one → text ≡ other → before ++ identifier text ≡ one ++ identifier other
named before text one other e f = ap₂ (λ a b. a ++ identifier b) e f

pub returns-in_err-put_identifier_after : goal.returns-in_err-put_identifier_after
returns-in_err-put_identifier_after g c =
    as_stopped _ c.from_residual.ensures.1
    (writes_same _ _ (parts c.args.frame.now c.args.names.now.variable c.args.names.now.name)
    (stops_before _ _ (stops_before _ _ (stops_before _ _
    (writes_same _ _ (named _ _ _ _ c.as_str.ensures c.as_str-2.ensures) c.in_err-put_identifier_after.ensures)))))

pub returns-in_err-put_identifier_after-2 : goal.returns-in_err-put_identifier_after-2
returns-in_err-put_identifier_after-2 g c =
    as_stopped _ c.from_residual-in_err-put_identifier_after-2.ensures.1
    (writes_same _ _ (parts c.args.frame.now c.args.names.now.variable c.args.names.now.name)
    (stops_before _ _ (writes_two _ _ _
    (writes_same _ _ (named _ _ _ _ c.as_str.ensures c.as_str-2.ensures) c.in_ok-put_identifier_after.ensures)
    (writes_same _ _ (named _ _ _ _ c.as_str-3.ensures c.as_str-4.ensures) c.in_err-put_identifier_after-2.ensures))))

pub returns : goal.returns
returns g c =
    writes_same _ _ (parts c.args.frame.now c.args.names.now.variable c.args.names.now.name)
    (writes_then _ _ (writes_two _ _ _
    (writes_same _ _ (named _ _ _ _ c.as_str.ensures c.as_str-2.ensures) c.in_ok-put_identifier_after.ensures)
    (writes_same _ _ (named _ _ _ _ c.as_str-3.ensures c.as_str-4.ensures) c.in_ok-put_identifier_after-2.ensures))
    (writes_same _ _ c.as_str-5.ensures c.put_text.ensures))
