use Rattle.std.proofs.Common.{◌∙◌, [], cond, None, ap, sym}
use Rattle.cc_quote.specs.FishQuote.{bare, begins_with_word, fish_word_from}
use Rattle.cc_quote.proofs.FishCharacters.{fish_reads}
use Rattle.cc_quote.proofs.fish_reader.fish_word.Goals as goal

pub returns-clause-word : goal.returns-clause-word
returns-clause-word c =
    c.in_ok-read_word.ensures fish_reads
    ∙ ap (λ b. cond b (fish_word_from (bare []) c.args.text.now) None)
    (sym (ap begins_with_word (sym c.as_bytes.ensures.value) ∙ sym c.begins_word.ensures ∙ c.if-not-begins_word.false))
