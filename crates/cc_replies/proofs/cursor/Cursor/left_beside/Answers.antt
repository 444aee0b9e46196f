use Rattle.std.proofs.Common.{◌-◌, ◌∙◌, ap}
use Rattle.std.specs.Fmt.{char_count}
use Rattle.cc_base.specs.Found.{after}
use Rattle.cc_replies.specs.BashWords.{bash_text}
use Rattle.cc_replies.proofs.ListWidths.{closed_left, unclosed_left}
use Rattle.cc_replies.proofs.cursor.Cursor.left_beside.Goals as goal

pub returns-in_default : goal.returns-in_default
returns-in_default c =
    unclosed_left c.args.self.now c.args.left c.args.value.now
    (c.in_default.ensures ∙ ap (λ kept. after kept c.args.value.now) c.as_str-kept.ensures)

pub returns : goal.returns
returns c =
    closed_left c.args.self.now c.args.left c.left_after_text-left.result c.left_after.result c.args.value.now
    c.in-Some.rest.now
    (c.in-Some.ensures ∙ ap (λ kept. after kept c.args.value.now) c.as_str-kept.ensures)
    (c.left_after_text-left.ensures
    ∙ ap (λ kept. c.args.left - char_count (bash_text kept c.args.self.now.quote c.in-Some.rest.now)) c.as_str-kept.ensures)
    (c.left_after.ensures
    ∙ ap (λ text. c.left_after_text-left.result - char_count text) c.closing_quote.ensures)
