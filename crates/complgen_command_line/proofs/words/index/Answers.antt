use Rattle.complgen_command_line.proofs.words.index.Goals as goal

pub returns-in-Ok-clause-ok : goal.returns-in-Ok-clause-ok
returns-in-Ok-clause-ok c =
    let parsed = c.in-Ok.ensures.value.0 in
    record {
      text = c.text.result.now;
      has_text = c.text.ensures;
      writes = record {
        is_numeral = parsed.0.0;
        fits = parsed.0.1;
        has_value = parsed.1;
      };
    }

pub returns-in-Err-clause-err : goal.returns-in-Err-clause-err
returns-in-Err-clause-err c = (
  record { status = c.from_static.ensures.status; text_is = c.from_static.ensures.text },
  record {
    text = c.text.result.now;
    has_text = c.text.ensures;
    writes_none = λ index writes. c.in-Err.ensures.value.0 (writes.is_numeral, writes.fits);
  },
)
