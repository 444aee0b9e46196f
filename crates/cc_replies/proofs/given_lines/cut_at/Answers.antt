use Rattle.std.proofs.Common.{Some, ap, sym, ◌∙◌, arith}
use Rattle.cc_base.specs.Found.{after}
use Rattle.cc_replies.proofs.Cutting.{cut_end, cut_found, cut_more, cut_start}
use Rattle.cc_replies.proofs.given_lines.cut_at.Goals as goal

pub loop-at-init : goal.loop-at-init
loop-at-init c = cut_start c.args.mark.now c.args.text.now

pub returns-in-Some : goal.returns-in-Some
returns-in-Some c =
    cut_found c.args.mark.now c.args.text.now c.in-Some.after.now c.loop-at.at (omega arith)
    (sym (c.in-Some.ensures ∙ ap (after c.args.mark.now) c.split_at.ensures.back)) c.loop-at.invariant
    ∙ ap (λ front. Some (front, c.in-Some.after.now)) (sym c.split_at.ensures.front)

pub loop-at-preserved : goal.loop-at-preserved
loop-at-preserved c =
    cut_more c.args.mark.now c.args.text.now c.loop-at.at (omega arith)
    (sym (c.in_default.ensures ∙ ap (after c.args.mark.now) c.split_at.ensures.back)) c.loop-at.invariant

pub returns : goal.returns
returns c = cut_end c.args.mark.now c.args.text.now c.loop-at.at (omega arith) c.loop-at.invariant
