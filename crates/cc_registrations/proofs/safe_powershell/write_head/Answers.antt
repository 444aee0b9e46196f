use Rattle.std.proofs.Common.{◌≡◌, ℕ, List, ◌++◌, codes, map, refl}
use Rattle.cc_base.proofs.WrittenTexts.{writes_same, writes_then}
use Rattle.cc_base.specs.Joined.{joined}
use Rattle.cc_base.proofs.Stopped.{as_stopped, stops_before}
use Rattle.cc_registrations.specs.Names.{powershell_quoted}
use Rattle.cc_registrations.specs.SafePowershell.{fixed_texts, registration_head}
use Rattle.cc_registrations.specs.declared.safe_powershell.TheConstants.{NAMES_BEGIN, SCRIPT_HEAD}
use Rattle.cc_registrations.proofs.safe_powershell.write_head.Goals as goal

parts : (bins : List (List ℕ)) →
    NAMES_BEGIN.now ++ joined (codes ", ") (map powershell_quoted bins) ++ SCRIPT_HEAD.now
    ≡ registration_head bins
unfolding fixed_texts registration_head
parts bins = refl

pub returns-in_err-put_text : goal.returns-in_err-put_text
returns-in_err-put_text g c =
    as_stopped _ c.from_residual.ensures.1
    (writes_same _ _ (parts (map (λ bin. bin.now) c.args.bins.now))
    (stops_before _ SCRIPT_HEAD.now (stops_before _ (joined (codes ", ") (map powershell_quoted (map (λ bin. bin.now) c.args.bins.now))) c.in_err-put_text.ensures)))

pub returns-in_err-put_names : goal.returns-in_err-put_names
returns-in_err-put_names g c =
    as_stopped _ c.from_residual-in_err-put_names.ensures.1
    (writes_same _ _ (parts (map (λ bin. bin.now) c.args.bins.now))
    (stops_before _ _ (writes_then _ _ c.in_ok-put_text.ensures c.in_err-put_names.ensures)))

pub returns : goal.returns
returns g c =
    writes_same _ _ (parts (map (λ bin. bin.now) c.args.bins.now))
    (writes_then _ _ (writes_then _ _ c.in_ok-put_text.ensures c.in_ok-put_names.ensures) c.put_text-2.ensures)
