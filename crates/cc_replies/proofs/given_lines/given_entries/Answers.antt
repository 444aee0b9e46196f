use Rattle.std.specs.Option.{option_copied}
use Rattle.cc_replies.specs.GivenLines.{given_entries}
use Rattle.cc_replies.proofs.Cutting.{rest_shorter}
use Rattle.cc_replies.proofs.GivenEntries.{entries_last, entries_more}
use Rattle.cc_replies.proofs.given_lines.given_entries.Goals as goal

pub loop-line-smaller : goal.loop-line-smaller
loop-line-smaller c = rest_shorter c.loop-line.rest.now c.in-Some.line.now c.in-Some.next.now c.in-Some.ensures

pub loop-line-preserved : goal.loop-line-preserved
loop-line-preserved c =
    entries_more (option_copied c.args.split) c.loop-line.rest.now c.in-Some.line.now c.in-Some.next.now c.loop-line.entries.items c.push_line.new.entries.items
    (given_entries (option_copied c.args.split) c.args.text.now) c.in-Some.ensures c.in_ok-push_line.ensures c.loop-line.invariant

pub returns : goal.returns
returns c =
    entries_last (option_copied c.args.split) c.loop-line.rest.now c.loop-line.entries.items c.push_line-2.new.entries.items
    (given_entries (option_copied c.args.split) c.args.text.now) c.in_default.ensures c.in_ok-push_line-2.ensures c.loop-line.invariant
