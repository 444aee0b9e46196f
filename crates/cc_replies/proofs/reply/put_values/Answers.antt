use Rattle.std.proofs.Common.{ℕ, List, map, refl}
use Rattle.cc_base.proofs.WrittenTexts.{writes_same, writes_then}
use Rattle.cc_candidates.specs.declared.candidate.CompletionCandidate.{CompletionCandidate}
use Rattle.cc_base.proofs.Stopped.{put_stopped}
use Rattle.cc_replies.proofs.StoppedLoops.{stops_after_separator, stops_at_separator}
use Rattle.cc_replies.proofs.reply.put_values.Goals as goal

abbrev texts : List CompletionCandidate → List (List ℕ)
texts candidates = map (λ candidate. candidate.value) candidates

pub returns-in_err-put_separator : goal.returns-in_err-put_separator
returns-in_err-put_separator g c =
    let item = c.candidate-item.result in
    put_stopped _ c.from_residual.ensures.1
    (stops_at_separator c.args.between.now c.loop-candidate.begun texts c.args.candidates.now c.loop-candidate.candidate-index
    item item.value _ c.loop-candidate-test.true c.candidate-item.is refl c.loop-candidate.invariant
    c.in_err-put_separator.ensures.written)

pub returns-in_err-put_piece : goal.returns-in_err-put_piece
returns-in_err-put_piece g c =
    let item = c.candidate-item.result in
    put_stopped _ c.from_residual-in_err-put_piece.ensures.1
    (stops_after_separator c.args.between.now c.loop-candidate.begun texts c.args.candidates.now c.loop-candidate.candidate-index
    item item.value _ c.loop-candidate-test.true c.candidate-item.is refl c.loop-candidate.invariant
    (writes_then _ _ c.in_ok-put_separator.ensures.written
    (writes_same _ _ c.get_value-value.ensures c.in_err-put_piece.ensures.written)))
