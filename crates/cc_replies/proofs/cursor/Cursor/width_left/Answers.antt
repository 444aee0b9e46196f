use Rattle.std.proofs.Common.{◌-◌, ◌∙◌, ℕ, ap, arith, min, sym}
use Rattle.std.specs.Fmt.{char_count}
use Rattle.cc_candidates.specs.declared.candidate.CompletionCandidate.{CompletionCandidate}
use Rattle.cc_replies.specs.BashList.{closed_word, is_described}
use Rattle.cc_replies.specs.BashWords.{Cursor}
use Rattle.cc_replies.proofs.ListWidths.{least_first, measured, most_end, passed_over}
use Rattle.cc_replies.proofs.cursor.Cursor.width_left.Goals as goal

abbrev size : Cursor → CompletionCandidate → ℕ
size cursor candidate = char_count (closed_word cursor candidate.value)

pub loop-candidate-init : goal.loop-candidate-init
loop-candidate-init c = record { least = least_first _ _; within = omega arith }

pub loop-candidate-preserved-then-not-is_described : goal.loop-candidate-preserved-then-not-is_described
loop-candidate-preserved-then-not-is_described c = record {
  least =
      passed_over (is_described c.args.self.now) (size c.args.self.now) c.args.self.now.width c.loop-candidate.least c.args.candidates.now
      c.loop-candidate.candidate-index c.candidate-item.result c.loop-candidate-test.true c.candidate-item.is
      (sym c.is_described.ensures ∙ c.if-not-is_described.true)
      ∙ c.loop-candidate.invariant.least;
  within = c.loop-candidate.invariant.within;
}

pub loop-candidate-preserved : goal.loop-candidate-preserved
loop-candidate-preserved c = record {
  least =
      measured (is_described c.args.self.now) (size c.args.self.now) c.args.self.now.width c.loop-candidate.least c.args.candidates.now
      c.loop-candidate.candidate-index c.candidate-item.result c.loop-candidate-test.true c.candidate-item.is c.min-least.result
      (sym c.is_described.ensures ∙ c.if-not-is_described.false)
      (c.min-least.ensures ∙ ap (min c.loop-candidate.least) (c.left_beside.ensures
      ∙ ap (λ value. c.args.self.now.width - char_count (closed_word c.args.self.now value)) c.get_value.ensures))
      ∙ c.loop-candidate.invariant.least;
  within = omega (arith, c.min-least.ensures, c.loop-candidate.invariant.within);
}

pub returns : goal.returns
returns c =
    let none = most_end (is_described c.args.self.now) (size c.args.self.now) c.args.candidates.now c.loop-candidate.candidate-index c.loop-candidate-test.false in
    omega (arith, none, c.loop-candidate.invariant.least, c.loop-candidate.invariant.within)
