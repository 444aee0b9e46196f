use Rattle.std.proofs.Common.{sym, ◌∙◌}
use Rattle.cc_replies.specs.GivenLines.{without_last_blanks}
use Rattle.cc_replies.proofs.Cutting.{last_blanks_end, last_blanks_on, last_blanks_stop}
use Rattle.cc_replies.proofs.given_lines.without_last_blanks.Goals as goal

pub returns-then-not-is_blank : goal.returns-then-not-is_blank
returns-then-not-is_blank c =
    last_blanks_stop c.loop-last.rest.now c.in-Some.others.now (without_last_blanks c.args.text.now) c.in-Some.last.now
    c.in-Some.ensures.cases.0 (sym c.is_blank.ensures ∙ c.if-not-is_blank.true) c.loop-last.invariant

pub loop-last-preserved : goal.loop-last-preserved
loop-last-preserved c =
    last_blanks_on c.loop-last.rest.now c.in-Some.others.now (without_last_blanks c.args.text.now) c.in-Some.last.now
    c.in-Some.ensures.cases.0 (sym c.is_blank.ensures ∙ c.if-not-is_blank.false) c.loop-last.invariant

pub returns : goal.returns
returns c = last_blanks_end c.loop-last.rest.now (without_last_blanks c.args.text.now) c.in_default.ensures.cases c.loop-last.invariant
