use Rattle.std.proofs.Common.{◌∙◌, Some, None, map, ap, sym, arith}
use Rattle.std.proofs.lemmas.Str.Pattern.{strip_prefix_char}
use Rattle.cc_base.specs.Bytes.{single_quote}
use Rattle.cc_quote.specs.ElvishQuote.{elvish_word_of}
use Rattle.cc_quote.specs.QuotedWord.{contents}
use Rattle.cc_quote.specs.Signs.{sign}
use Rattle.cc_quote.proofs.ElvishWords.{elvish_signs, elvish_begins_none}
use Rattle.cc_quote.proofs.WordReading.{bare_word}
use Rattle.cc_quote.proofs.elvish.elvish_word.Goals as goal

pub returns-in_ok-quoted_word-in-Some-clause-word : goal.returns-in_ok-quoted_word-in-Some-clause-word
unfolding sign
returns-in_ok-quoted_word-in-Some-clause-word c =
    c.in_ok-quoted_word-in-Some.ensures ∙ ap elvish_word_of (sym (strip_prefix_char single_quote c.args.text.now (Some c.in-Some.quoted) c.in-Some.ensures.cases (omega arith)))

pub returns-in_ok-bare_word-in-None-clause-word : goal.returns-in_ok-bare_word-in-None-clause-word
returns-in_ok-bare_word-in-None-clause-word c =
    let unquoted = elvish_begins_none c.args.text.now (strip_prefix_char single_quote c.args.text.now None c.in-None.ensures.cases (omega arith)) in
    sym (bare_word (map sign) elvish_signs c.args.text.now (contents c.in_ok-bare_word-in-None.field-0) c.in_ok-bare_word-in-None.ensures unquoted)
