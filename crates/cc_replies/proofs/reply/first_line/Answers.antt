use Rattle.cc_base.specs.Bytes.{line_feed}
use Rattle.std.proofs.Common.{◌∙◌, Some, None, ap, sym, arith}
use Rattle.std.proofs.lemmas.Str.Pattern.{split_parts}
use Rattle.cc_replies.specs.Reply.{first_line}
use Rattle.cc_replies.proofs.FirstLines.{lacks_by_index, line_cut, whole_line}
use Rattle.cc_replies.proofs.reply.first_line.Goals as goal

pub returns-in-Some : goal.returns-in-Some
returns-in-Some c =
    let parts = split_parts line_feed c.args.text.now (Some (c.in-Some.line, c.in-Some.field-0-1)) c.in-Some.ensures.cases (omega arith) in
    c.without_return.ensures ∙ sym (ap first_line parts.0 ∙ line_cut c.in-Some.line.now c.in-Some.field-0-1.now (lacks_by_index line_feed c.in-Some.line.now parts.1))

pub returns-in-None : goal.returns-in-None
returns-in-None c =
    let none = split_parts line_feed c.args.text.now None c.in-None.ensures.cases (omega arith) in
    sym (whole_line c.args.text.now (lacks_by_index line_feed c.args.text.now none))
