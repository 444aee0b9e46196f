use Rattle.std.proofs.Common.{◌≡◌, ℕ, List, ◌++◌, ap, codes, map, refl}
use Rattle.cc_base.proofs.WrittenTexts.{writes_same, writes_then}
use Rattle.cc_base.specs.Joined.{joined}
use Rattle.cc_base.proofs.Stopped.{as_stopped, stops_before}
use Rattle.cc_registrations.specs.Names.{identifier}
use Rattle.cc_registrations.specs.Quoted.{quoted}
use Rattle.cc_registrations.specs.SafeText.{names_line}
use Rattle.cc_registrations.specs.declared.safe_text.SafeFrame.{SafeFrame}
use Rattle.cc_registrations.proofs.safe_text.write_names_line.Goals as goal

parts : (frame : SafeFrame) (name : List ℕ) (bins : List (List ℕ)) →
    frame.names_begin ++ identifier name ++ frame.names_follow ++ joined frame.names_between (map (quoted frame.quoting) bins) ++ codes "\n"
    ≡ names_line frame name bins
unfolding names_line
parts frame name bins = refl

after : (name before one : List ℕ) → before ≡ one → before ++ identifier name ≡ one ++ identifier name
after name before one e = ap (λ t. t ++ identifier name) e

pub returns-in_err-put_identifier_after : goal.returns-in_err-put_identifier_after
returns-in_err-put_identifier_after g c =
    as_stopped _ c.from_residual.ensures.1
    (writes_same _ _ (parts c.args.frame.now c.args.name.now (map (λ bin. bin.now) c.args.bins.now))
    (stops_before _ _ (stops_before _ _ (stops_before _ _
    (writes_same _ _ (after _ _ _ c.as_str.ensures) c.in_err-put_identifier_after.ensures)))))

pub returns-in_err-put_text : goal.returns-in_err-put_text
returns-in_err-put_text g c =
    as_stopped _ c.from_residual-in_err-put_text.ensures.1
    (writes_same _ _ (parts c.args.frame.now c.args.name.now (map (λ bin. bin.now) c.args.bins.now))
    (stops_before _ _ (stops_before _ _ (writes_then _ _
    (writes_same _ _ (after _ _ _ c.as_str.ensures) c.in_ok-put_identifier_after.ensures)
    (writes_same _ _ c.as_str-2.ensures c.in_err-put_text.ensures)))))

pub returns-in_err-put_names : goal.returns-in_err-put_names
returns-in_err-put_names g c =
    as_stopped _ c.from_residual-in_err-put_names.ensures.1
    (writes_same _ _ (parts c.args.frame.now c.args.name.now (map (λ bin. bin.now) c.args.bins.now))
    (stops_before _ _ (writes_then _ _ (writes_then _ _
    (writes_same _ _ (after _ _ _ c.as_str.ensures) c.in_ok-put_identifier_after.ensures)
    (writes_same _ _ c.as_str-2.ensures c.in_ok-put_text.ensures))
    (writes_same _ _ (ap (λ between. joined between (map (quoted c.args.frame.now.quoting) (map (λ bin. bin.now) c.args.bins.now))) c.as_str-3.ensures)
    c.in_err-put_names.ensures))))

pub returns : goal.returns
returns g c =
    writes_same _ _ (parts c.args.frame.now c.args.name.now (map (λ bin. bin.now) c.args.bins.now))
    (writes_then _ _ (writes_then _ _ (writes_then _ _
    (writes_same _ _ (after _ _ _ c.as_str.ensures) c.in_ok-put_identifier_after.ensures)
    (writes_same _ _ c.as_str-2.ensures c.in_ok-put_text.ensures))
    (writes_same _ _ (ap (λ between. joined between (map (quoted c.args.frame.now.quoting) (map (λ bin. bin.now) c.args.bins.now))) c.as_str-3.ensures)
    c.in_ok-put_names.ensures))
    c.put_text-2.ensures)
