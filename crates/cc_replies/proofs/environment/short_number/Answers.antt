use Rattle.std.proofs.Common.{sym, ◌∙◌}
use Rattle.cc_replies.proofs.Widths.{short_reads}
use Rattle.cc_replies.proofs.environment.short_number.Goals as goal

pub returns : goal.returns
returns c =
    short_reads c.args.text.now c.number.result (sym c.is_short_number.ensures ∙ c.if-not-is_short_number.false)
    c.number.ensures
