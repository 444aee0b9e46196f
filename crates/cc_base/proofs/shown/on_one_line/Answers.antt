use Rattle.std.proofs.Common.{◌≡◌, rules, subst, sym}
use Rattle.std.proofs.lemmas.Iterator.{YieldsList-from_chars, YieldsList-from_map, text_from_collect}
use Rattle.std.proofs.lemmas.Result.{IfOk-weaker}
use Rattle.std.specs.String.{string_bytes}
use Rattle.cc_base.specs.Shown.{HoldsNoControl, on_one_line, visible}
use Rattle.cc_base.proofs.ShownLemmas.{shown_holds_none}
use Rattle.cc_base.proofs.shown.on_one_line.Goals as goal

pub returns-clause-shown : goal.returns-clause-shown
returns-clause-shown c = text_from_collect _ c.collect.ensures.ran
    (YieldsList-from_map _ visible (YieldsList-from_chars c.args.text.now c.utf8.text cc)
    c.map.ensures.closure (λ x r q k. search rules))

pub returns-clause-no_control : goal.returns-clause-no_control
returns-clause-no_control c =
    IfOk-weaker c.collect.result (λ shown. string_bytes shown ≡ on_one_line c.args.text.now)
    (λ shown. HoldsNoControl (string_bytes shown))
    (λ shown is. subst HoldsNoControl (sym is) (shown_holds_none c.args.text.now c.utf8.text))
    (returns-clause-shown c)
