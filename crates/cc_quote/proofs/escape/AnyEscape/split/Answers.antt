use Rattle.std.proofs.Common.{◌∙◌, ◌<◌, refl, slice_index, arith}
use Rattle.std.proofs.lemmas.Slice.{between_from_start}
use Rattle.std.proofs.lemmas.Str.{IsCharBoundary-after_ascii}
use Rattle.cc_quote.proofs.ByteEscapes.{kept_whole, first_escaped, replacement_is}
use Rattle.cc_quote.proofs.escape.AnyEscape.split.Goals as goal

pub returns-in_err-at : goal.returns-in_err-at
returns-in_err-at g c =
    let escape = c.args.self.now in
    rw c.from_residual.ensures (kept_whole (g.E.ByteEscape.escapes escape) (g.E.ByteEscape.replacement escape) c.args.text.now c.as_bytes-bytes.result.now c.as_bytes-bytes.ensures.value c.in_err-at.ensures)

-- after an ASCII byte a character begins
pub range_from-requires : goal.range_from-requires
range_from-requires g c =
    let found = c.in_ok-at.ensures in
    let low : slice_index c.args.text.now c.in_ok-at.at < 128 = rw c.as_bytes-bytes.ensures.value at c.in_ok-replacement.ensures.ascii refl in
    λ _. IsCharBoundary-after_ascii c.args.text.now c.in_ok-at.at c.utf8.text (rw c.as_bytes-bytes.ensures.value at found.0.high) low

pub returns : goal.returns
returns g c =
    let escape = c.args.self.now in
    let text = c.args.text.now in
    let searched = c.as_bytes-bytes.result.now in
    let at = c.in_ok-at.at in
    let found = c.in_ok-at.ensures in
    let run = c.range.ensures.value ∙ between_from_start text at in
    let stands = replacement_is (g.E.ByteEscape.escapes escape) (g.E.ByteEscape.replacement escape) (slice_index searched at) c.in_ok-replacement.replacement.now found.1 c.in_ok-replacement.ensures.text in
    record {
      whole =
          first_escaped (g.E.ByteEscape.escapes escape) (g.E.ByteEscape.replacement escape) text searched at c.as_bytes-bytes.ensures.value found
          ∙ rw (run, stands, c.range_from.ensures.value);
      shorter = omega (arith, found.0.high);
    }
