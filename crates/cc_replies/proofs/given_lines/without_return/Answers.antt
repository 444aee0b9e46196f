use Rattle.std.proofs.Common.{◌∷◌, [], ◌∙◌, ap}
use Rattle.std.proofs.lemmas.Bool.Decides.{Decides-eqb}
use Rattle.std.proofs.lemmas.Slice.Eq.{strip_suffix_is}
use Rattle.cc_replies.specs.Reply.{carriage_return}
use Rattle.cc_replies.proofs.FirstLines.{return_cut}
use Rattle.cc_replies.proofs.given_lines.without_return.Goals as goal

pub returns : goal.returns
returns c =
    ap (λ text. text.now) c.unwrap_or.ensures
    ∙ return_cut c.args.line c.strip_suffix.result (strip_suffix_is Decides-eqb c.args.line.now (carriage_return ∷ []) c.strip_suffix.result c.strip_suffix.ensures.cases)
