use Rattle.std.proofs.Common.{◌∙◌, option_map, ap, sym}
use Rattle.cc_quote.specs.QuotedWord.{contents}
use Rattle.cc_quote.proofs.ZshWords.{states_unescape, unescaping_reads}
use Rattle.cc_quote.proofs.zsh.zsh_unescape.Goals as goal

pub returns-in-Some-clause-unescaped : goal.returns-in-Some-clause-unescaped
returns-in-Some-clause-unescaped c =
    ap (λ read. option_map (λ read. read.0) (contents read)) (sym c.in-Some.is)
    ∙ ap (option_map (λ read. read.0)) (c.in_ok-word.ensures unescaping_reads)
    ∙ states_unescape c.args.text.now

pub returns-in-None-clause-unescaped : goal.returns-in-None-clause-unescaped
returns-in-None-clause-unescaped c =
    ap (λ read. option_map (λ read. read.0) (contents read)) (sym c.in-None.is)
    ∙ ap (option_map (λ read. read.0)) (c.in_ok-word.ensures unescaping_reads)
    ∙ states_unescape c.args.text.now
