use Rattle.std.proofs.Common.{ap, ◌∙◌}
use Rattle.std.specs.Vec.Iter.{into_iter_items}
use Rattle.cc_replies.specs.GivenLines.{Entry, first_of_values}
use Rattle.cc_replies.proofs.FirstOfValues.{value_new, value_old, values_start}
use Rattle.cc_replies.proofs.given_lines.first_of_values.Goals as goal

pub loop-entry-init : goal.loop-entry-init
loop-entry-init c =
    values_start c.new-seen.result c.new-kept.result.items (into_iter_items c.into_iter-entry-iterator.result) c.args.entries.items
    c.new-seen.ensures.empty c.new-kept.ensures.items c.into_iter-entry-iterator.ensures.into_iter_gives.0

pub loop-entry-preserved-then-not-branch : goal.loop-entry-preserved-then-not-branch
loop-entry-preserved-then-not-branch c =
    value_old c.loop-entry.seen c.insert.new.self c.loop-entry.kept.items (into_iter_items c.loop-entry.entry-iterator) (into_iter_items c.next.new.self)
    (first_of_values c.args.entries.items) c.in-Some.entry c.new.result c.in_ok-insert.field-0 c.in-Some.ensures.steps.0
    (c.new.ensures ∙ ap (λ (entry : Entry). entry.value) c.entry.view_is) (c.in_ok-insert.ensures.updates.0, c.in_ok-insert.ensures.added)
    c.if-not-branch.true c.loop-entry.invariant

pub loop-entry-preserved : goal.loop-entry-preserved
loop-entry-preserved c =
    value_new c.loop-entry.seen c.insert.new.self c.loop-entry.kept.items c.push.new.self.items (into_iter_items c.loop-entry.entry-iterator) (into_iter_items c.next.new.self)
    (first_of_values c.args.entries.items) c.in-Some.entry c.new.result c.in_ok-insert.field-0 c.in-Some.ensures.steps.0
    (c.new.ensures ∙ ap (λ (entry : Entry). entry.value) c.entry.view_is) (c.in_ok-insert.ensures.updates.0, c.in_ok-insert.ensures.added)
    c.if-not-branch.false c.in_ok-push.ensures.items c.loop-entry.invariant
