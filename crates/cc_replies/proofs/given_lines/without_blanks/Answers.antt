use Rattle.std.proofs.Common.{sym, ◌∙◌}
use Rattle.cc_base.specs.Found.{without_blanks}
use Rattle.cc_replies.proofs.Cutting.{blanks_end, blanks_on, blanks_stop}
use Rattle.cc_replies.proofs.given_lines.without_blanks.Goals as goal

pub returns-then-not-is_blank : goal.returns-then-not-is_blank
returns-then-not-is_blank c =
    blanks_stop c.loop-first.rest.now c.in-Some.others.now (without_blanks c.args.text.now) c.in-Some.first.now
    c.in-Some.ensures.cases.0 (sym c.is_blank.ensures ∙ c.if-not-is_blank.true) c.loop-first.invariant

pub loop-first-preserved : goal.loop-first-preserved
loop-first-preserved c =
    blanks_on c.loop-first.rest.now c.in-Some.others.now (without_blanks c.args.text.now) c.in-Some.first.now
    c.in-Some.ensures.cases.0 (sym c.is_blank.ensures ∙ c.if-not-is_blank.false) c.loop-first.invariant

pub returns : goal.returns
returns c = blanks_end c.loop-first.rest.now (without_blanks c.args.text.now) c.in_default.ensures.cases c.loop-first.invariant
