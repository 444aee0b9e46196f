use Rattle.std.proofs.Common.{true, false, sym, ◌∙◌}
use Rattle.cc_replies.proofs.Characters.{char_count_one}
use Rattle.cc_replies.proofs.columns.starts.Goals as goal

pub returns-then-is_char_start : goal.returns-then-is_char_start
returns-then-is_char_start c =
    char_count_one c.args.byte true (sym c.is_char_start.ensures ∙ c.if-is_char_start.true)

pub returns-else-is_char_start : goal.returns-else-is_char_start
returns-else-is_char_start c =
    char_count_one c.args.byte false (sym c.is_char_start.ensures ∙ c.if-is_char_start.false)
