use Rattle.std.proofs.Common.{◌≡◌, ◌≢◌, ◌∙◌, ◌∷◌, [], ◌+◌, get_or, take, drop, arith}
use Rattle.std.proofs.lemmas.Slice.{between_from_start}
use Rattle.std.proofs.lemmas.Str.{IsCharBoundary-after_ascii}
use Rattle.cc_base.specs.Bytes.{right_quote, single_quote}
use Rattle.cc_quote.specs.PowershellQuote.{IsFirstQuote}
use Rattle.cc_quote.proofs.PowershellWords.{begins_right, cut_after, cut_at_single, cut_at_right}
use Rattle.cc_quote.proofs.powershell.split_at_quote.Goals as goal

pub range_from-requires : goal.range_from-requires
range_from-requires c =
    let text = c.args.text.now in
    let at = c.in-Some.at in
    let is : get_or text at 0 ≡ 39 = rw c.as_bytes-bytes.ensures.value at c.if-bytes-at-eq39.true in
    λ _. IsCharBoundary-after_ascii text at c.utf8.text (omega (arith, c.in-Some.ensures.within)) (omega arith)

pub returns-then-bytes-at-eq39 : goal.returns-then-bytes-at-eq39
returns-then-bytes-at-eq39 c =
    let text = c.args.text.now in
    let at = c.in-Some.at in
    let first : IsFirstQuote text at = rw c.as_bytes-bytes.ensures.value at c.in-Some.ensures in
    let is : get_or text at 0 ≡ 39 = rw c.as_bytes-bytes.ensures.value at c.if-bytes-at-eq39.true in
    let run : c.range-run.result.now ≡ take at text = c.range-run.ensures.value ∙ between_from_start text at in
    (single_quote ∷ [], rw (run, c.range_from.ensures.value) (cut_at_single text at first is))

pub range_from-requires-2 : goal.range_from-requires-2
range_from-requires-2 c =
    let text = c.args.text.now in
    let at = c.in-Some.at in
    let first : IsFirstQuote text at = rw c.as_bytes-bytes.ensures.value at c.in-Some.ensures in
    let no_quote : get_or text at 0 ≢ 39 = rw c.as_bytes-bytes.ensures.value at c.if-bytes-at-eq39.false in
    λ _. cut_after text at first.within (begins_right (get_or text at 0) (drop (at + 1) text) no_quote first.here) c.utf8.text

pub returns : goal.returns
returns c =
    let text = c.args.text.now in
    let at = c.in-Some.at in
    let first : IsFirstQuote text at = rw c.as_bytes-bytes.ensures.value at c.in-Some.ensures in
    let no_quote : get_or text at 0 ≢ 39 = rw c.as_bytes-bytes.ensures.value at c.if-bytes-at-eq39.false in
    let run : c.range-run.result.now ≡ take at text = c.range-run.ensures.value ∙ between_from_start text at in
    (right_quote, rw (run, c.range_from-2.ensures.value) (cut_at_right text at first (begins_right (get_or text at 0) (drop (at + 1) text) no_quote first.here)))
