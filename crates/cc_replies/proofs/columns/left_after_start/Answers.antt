use Rattle.cc_replies.proofs.ListWidths.{start_left}
use Rattle.cc_replies.proofs.columns.left_after_start.Goals as goal

pub returns : goal.returns
returns c =
    start_left c.args.left c.left_after.result c.left_after_escaped-2.result c.args.word.now c.in-Some.below.now
    c.in-Some.ensures c.left_after.ensures c.left_after_escaped-2.ensures
