use Rattle.std.proofs.Common.{◌∙◌, ap, sym, take, drop, rules}
use Rattle.cc_engine.proofs.LastPosition.{through_none, through_some}
use Rattle.cc_engine.proofs.gathering.parts.split_after_last.Goals as goal

pub returns-in-Some-clause-front : goal.returns-in-Some-clause-front
returns-in-Some-clause-front c =
    c.split_at.ensures.front ∙ ap (λ n. take n c.args.text.now) (sym (through_some c.args.sought.now c.args.text.now c.in-Some.position c.in-Some.ensures.cases.0 (search rules) c.in-Some.ensures.cases.1))

pub returns-in-Some-clause-part : goal.returns-in-Some-clause-part
returns-in-Some-clause-part c =
    c.split_at.ensures.back ∙ ap (λ n. drop n c.args.text.now) (sym (through_some c.args.sought.now c.args.text.now c.in-Some.position c.in-Some.ensures.cases.0 (search rules) c.in-Some.ensures.cases.1))

pub returns-in-None-clause-front : goal.returns-in-None-clause-front
returns-in-None-clause-front c = ap (λ n. take n c.args.text.now) (sym (through_none c.args.sought.now c.args.text.now c.in-None.ensures.cases))

pub returns-in-None-clause-part : goal.returns-in-None-clause-part
returns-in-None-clause-part c = ap (λ n. drop n c.args.text.now) (sym (through_none c.args.sought.now c.args.text.now c.in-None.ensures.cases))
