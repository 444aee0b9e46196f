use Rattle.std.proofs.Common.{◌∙◌, ap, arith}
use Rattle.std.proofs.lemmas.Str.Pattern.{strip_suffix_char}
use Rattle.cc_replies.specs.Reply.{carriage_return}
use Rattle.cc_replies.proofs.FirstLines.{return_cut}
use Rattle.cc_replies.proofs.reply.without_return.Goals as goal

pub returns : goal.returns
returns c =
    ap (λ text. text.now) c.unwrap_or.ensures
    ∙ return_cut c.args.line c.strip_suffix.result (strip_suffix_char carriage_return c.args.line.now c.strip_suffix.result c.strip_suffix.ensures.cases (omega arith))
