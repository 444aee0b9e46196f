use Rattle.std.proofs.Common.{◌≡◌, ◌≢◌, ◌∙◌, ◌+◌, get_or, take, drop, arith, refl}
use Rattle.std.proofs.lemmas.Slice.{between_from_start}
use Rattle.std.proofs.lemmas.Str.{IsCharBoundary-after_ascii}
use Rattle.cc_quote.specs.PowershellQuote.{IsFirstEscaped}
use Rattle.cc_quote.proofs.PowershellWords.{cut_after, escaped_right, escaped_at_right}
use Rattle.cc_quote.proofs.powershell.PowershellEscapeEscape.split.Goals as goal

pub range_from-requires : goal.range_from-requires
range_from-requires c =
    let text = c.args.text.now in
    let at = c.in-Some.at in
    let is : get_or text at 0 ≡ 39 = rw c.as_bytes-bytes.ensures.value at c.if-bytes-at-eq39.true in
    λ _. IsCharBoundary-after_ascii text at c.utf8.text (omega (arith, c.in-Some.ensures.within)) (omega arith)

pub range_from-requires-then-bytes-at-eq10 : goal.range_from-requires-then-bytes-at-eq10
range_from-requires-then-bytes-at-eq10 c =
    let text = c.args.text.now in
    let at = c.in-Some.at in
    let is : get_or text at 0 ≡ 10 = rw c.as_bytes-bytes.ensures.value at c.if-bytes-at-eq10.true in
    λ _. IsCharBoundary-after_ascii text at c.utf8.text (omega (arith, c.in-Some.ensures.within)) (omega arith)

pub range_from-requires-2 : goal.range_from-requires-2
range_from-requires-2 c =
    let text = c.args.text.now in
    let at = c.in-Some.at in
    let first : IsFirstEscaped text at = rw c.as_bytes-bytes.ensures.value at c.in-Some.ensures in
    let no_quote : get_or text at 0 ≢ 39 = rw c.as_bytes-bytes.ensures.value at c.if-bytes-at-eq39.false in
    let no_line_feed : get_or text at 0 ≢ 10 = rw c.as_bytes-bytes.ensures.value at c.if-bytes-at-eq10.false in
    λ _. cut_after text at first.within (escaped_right (get_or text at 0) (drop (at + 1) text) no_quote no_line_feed first.here) c.utf8.text

pub returns : goal.returns
returns c =
    let text = c.args.text.now in
    let at = c.in-Some.at in
    let first : IsFirstEscaped text at = rw c.as_bytes-bytes.ensures.value at c.in-Some.ensures in
    let no_quote : get_or text at 0 ≢ 39 = rw c.as_bytes-bytes.ensures.value at c.if-bytes-at-eq39.false in
    let no_line_feed : get_or text at 0 ≢ 10 = rw c.as_bytes-bytes.ensures.value at c.if-bytes-at-eq10.false in
    let run : c.range-run.result.now ≡ take at text = c.range-run.ensures.value ∙ between_from_start text at in
    record {
      whole =
          escaped_at_right text at first (escaped_right (get_or text at 0) (drop (at + 1) text) no_quote no_line_feed first.here)
          ∙ rw (run, c.range_from-2.ensures.value) refl;
      shorter = omega (arith, first.within);
    }
