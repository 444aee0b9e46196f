use Rattle.std.proofs.Common.{◌∙◌, ◌-◌, sym, arith}
use Rattle.cc_generator.proofs.Positions.{later_above, later_sibling, none_later}
use Rattle.cc_generator.proofs.preorder.later_position.Goals as goal

pub returns-then-number-siblings : goal.returns-then-number-siblings
returns-then-number-siblings c =
    let siblings = c.children-siblings.ensures in
    let next = later_sibling c.args.flat.now c.loop-parent.number c.in-Some.parent
    (sym c.in-Some.ensures.value) c.in-Some.ensures.before c.loop-parent.level siblings.children
    c.in-Some.ensures.child
    (omega (arith, c.if-number-siblings.true, siblings.end, siblings.first))
    c.loop-parent.invariant.level in
    (next.0, sym c.loop-parent.invariant.left ∙ next.1)

pub loop-parent-preserved : goal.loop-parent-preserved
loop-parent-preserved c =
    let siblings = c.children-siblings.ensures in
    let up = later_above c.args.flat.now c.loop-parent.number c.in-Some.parent
    (sym c.in-Some.ensures.value) c.in-Some.ensures.before c.loop-parent.level
    (c.loop-parent.level - 1) (omega arith)
    (omega (arith, c.if-number-siblings.false, siblings.end, siblings.first))
    c.loop-parent.invariant.level in
    record {
      listed = omega (arith, c.in-Some.ensures.before, c.loop-parent.invariant.listed);
      level = up.0;
      left = up.1 ∙ c.loop-parent.invariant.left;
    }

pub returns : goal.returns
returns c =
    sym c.loop-parent.invariant.left
    ∙ none_later c.args.flat.now c.loop-parent.level c.loop-parent.number
    (sym c.parent.ensures.value ∙ c.in_default.is) c.loop-parent.invariant.level
