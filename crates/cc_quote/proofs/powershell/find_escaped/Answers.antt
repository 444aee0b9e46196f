use Rattle.std.proofs.Common.{◌∙◌, sym}
use Rattle.cc_quote.proofs.PowershellSearch.{all_left, next_state, no_state, goes_on}
use Rattle.cc_quote.proofs.powershell.find_escaped.Goals as goal

pub loop-at-init : goal.loop-at-init
loop-at-init c =
    all_left c.args.text.now c.into_iter-at-iterator.result (c.into_iter-at-iterator.ensures.into_iter_gives ∙ c.memchr3_iter-at-items.ensures.value)

pub is_escaped_at-requires : goal.is_escaped_at-requires
is_escaped_at-requires c =
    (next_state c.args.text.now c.loop-at.at-iterator c.next.new.self c.in-Some.at c.loop-at.invariant c.in-Some.ensures.steps).within

pub returns-then-is_escaped_at : goal.returns-then-is_escaped_at
returns-then-is_escaped_at c =
    let next = next_state c.args.text.now c.loop-at.at-iterator c.next.new.self c.in-Some.at c.loop-at.invariant c.in-Some.ensures.steps in
    record { within = next.within; before = next.kept; here = sym c.is_escaped_at.ensures ∙ c.if-is_escaped_at.true }

pub loop-at-preserved : goal.loop-at-preserved
loop-at-preserved c =
    let next = next_state c.args.text.now c.loop-at.at-iterator c.next.new.self c.in-Some.at c.loop-at.invariant c.in-Some.ensures.steps in
    goes_on c.args.text.now c.next.new.self c.in-Some.at next (sym c.is_escaped_at.ensures ∙ c.if-is_escaped_at.false)

pub returns : goal.returns
returns c = no_state c.args.text.now c.loop-at.at-iterator c.loop-at.invariant c.in-None.ensures.steps.0
