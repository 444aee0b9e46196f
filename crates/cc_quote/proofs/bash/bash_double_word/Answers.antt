use Rattle.std.proofs.Common.{◌∙◌, [], Some, None, ap, sym, arith, inl, inr, refl}
use Rattle.std.proofs.lemmas.Str.Pattern.{strip_prefix_char}
use Rattle.cc_base.specs.Bytes.{double_quote}
use Rattle.cc_quote.specs.BashDouble.{bash_double_from, bash_double_of, double_next}
use Rattle.cc_quote.specs.declared.posix.QuoteState.TheVariants.{InDouble, InDoubleEscaped}
use Rattle.cc_quote.specs.PosixQuote.{posix_added}
use Rattle.cc_quote.specs.WordReader.{ReadsBytes}
use Rattle.cc_quote.proofs.CharacterReading.{double_none}
use Rattle.cc_quote.proofs.PosixWords.{after_other, leads-other, grows-other, same-other}
use Rattle.cc_quote.proofs.bash.bash_double_word.Goals as goal

-- The reader of a text between two `"` in bash reads a character as it reads its bytes.
double_reads : ReadsBytes double_next posix_added
double_reads = record {
  after = after_other;
  leads = elim [
    | InDouble ↦ inr (λ byte h. (leads-other InDouble byte h, leads-other InDouble byte h))
    | InDoubleEscaped ↦ inr (λ byte h. (leads-other InDoubleEscaped byte h, leads-other InDouble byte h))
    | _ ↦ inl (λ byte h. refl)
  ];
  grows = grows-other;
  same = same-other;
}

pub returns-in_ok-read_word-in-Some-clause-double : goal.returns-in_ok-read_word-in-Some-clause-double
unfolding bash_double_of bash_double_from
returns-in_ok-read_word-in-Some-clause-double c =
    c.in_ok-read_word-in-Some.ensures double_reads
    ∙ ap bash_double_of (sym (strip_prefix_char double_quote c.args.text.now (Some c.in-Some.inside) c.in-Some.ensures.cases (omega arith)))

pub returns-in-None-clause-double : goal.returns-in-None-clause-double
unfolding bash_double_of
returns-in-None-clause-double c =
    sym (double_none (bash_double_from InDouble []) c.args.text.now (strip_prefix_char double_quote c.args.text.now None c.in-None.ensures.cases (omega arith)))
