use Rattle.std.proofs.Common.{◌≡◌, ◌==◌, ◌++◌, true, false, drop, length, take, sym, ◌∙◌, ap, subst, arith, append-nil}
use Rattle.std.proofs.Math.ListN.{drop_of_length-le}
use Rattle.std.proofs.Math.Seq.{take-length}
use Rattle.std.proofs.lemmas.List.{take_all}
use Rattle.std.specs.Fmt.{char_count, take_chars}
use Rattle.std.specs.Prelude.{nat_le}
use Rattle.cc_replies.proofs.Characters.{char_count-drop, char_count_end, not_whole, take_chars-nil, take_chars_keeps, take_chars_stops, whole}
use Rattle.cc_replies.proofs.columns.end_of.Goals as goal
use Rattle.cc_replies.proofs.columns.end_of.Goals.{then-is_char_start+else-left-eq0, else-is_char_start}

pub returns-then-left-eq0-clause-value : goal.returns-then-left-eq0-clause-value
returns-then-left-eq0-clause-value c =
    let s = c.as_bytes-bytes.result.now in
    let i = c.loop-at.at in
    subst (λ t. take i t ≡ take_chars c.args.count t) c.as_bytes-bytes.ensures.value
    (sym (take_chars_stops s i c.loop-at-test.true (sym c.is_char_start.ensures ∙ c.if-is_char_start.true))
    ∙ ap (λ n. take i s ++ take_chars n (drop i s)) (sym c.if-left-eq0.true) ∙ c.loop-at.invariant.taken)

pub returns-then-left-eq0-clause-whole : goal.returns-then-left-eq0-clause-whole
returns-then-left-eq0-clause-whole c =
    let s = c.as_bytes-bytes.result.now in
    let i = c.loop-at.at in
    let next = char_count-drop s i c.loop-at-test.true in
    let one = rw (sym c.is_char_start.ensures ∙ c.if-is_char_start.true) at next in
    subst (λ t. (i == length t) ≡ nat_le (char_count t) c.args.count) c.as_bytes-bytes.ensures.value
    (not_whole i (length s) (char_count s) c.args.count (char_count (drop i s)) c.loop-at-test.true (omega (arith, one))
    (omega (arith, c.loop-at.invariant.counted, c.if-left-eq0.true)))

pub loop-at-preserved : goal.loop-at-preserved
loop-at-preserved c =
    let s = c.as_bytes-bytes.result.now in
    let i = c.loop-at.at in
    let within = c.loop-at-test.true in
    let next = char_count-drop s i within in
    let test = sym c.is_char_start.ensures in
    let keeps = take_chars_keeps s i within c.loop-at.left c.if-is_char_start.left in
    elim c.if-is_char_start.branch [
      | then-is_char_start+else-left-eq0 w ↦
          let one = rw (test ∙ w.if-is_char_start.true) at next in
          record {
            taken = keeps true (test ∙ w.if-is_char_start.true) (omega (arith, w.left-is)) ∙ c.loop-at.invariant.taken;
            counted = omega (arith, one, w.left-is, c.loop-at.invariant.counted);
          }
      | else-is_char_start w ↦
          let none = rw (test ∙ w.if-is_char_start.false) at next in
          record {
            taken = keeps false (test ∙ w.if-is_char_start.false) (omega (arith, w.left-is)) ∙ c.loop-at.invariant.taken;
            counted = omega (arith, none, w.left-is, c.loop-at.invariant.counted);
          }
    ]

pub returns-clause-value : goal.returns-clause-value
returns-clause-value c =
    let s = c.as_bytes-bytes.result.now in
    let past = c.loop-at-test.false in
    subst (λ t. take (length s) t ≡ take_chars c.args.count t) c.as_bytes-bytes.ensures.value
    (take-length s ∙ sym (append-nil s)
    ∙ rw (take_all c.loop-at.at s past, drop_of_length-le s past, take_chars-nil) at c.loop-at.invariant.taken)

pub returns-clause-whole : goal.returns-clause-whole
returns-clause-whole c =
    let s = c.as_bytes-bytes.result.now in
    let none = char_count_end s c.loop-at.at c.loop-at-test.false in
    subst (λ t. (length s == length t) ≡ nat_le (char_count t) c.args.count) c.as_bytes-bytes.ensures.value
    (whole (length s) (char_count s) c.args.count c.loop-at.left (omega (arith, none, c.loop-at.invariant.counted)))
