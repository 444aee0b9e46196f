use Rattle.std.proofs.Common.{◌≡◌, ◌∙◌, ℕ, List, ap, filter, flat_map, refl, sym, true}
use Rattle.cc_candidates.specs.declared.candidate.CompletionCandidate.{CompletionCandidate}
use Rattle.cc_base.proofs.Stopped.{put_stopped, stops_at}
use Rattle.cc_replies.proofs.reply_lines.put_each.Goals as goal

pub returns-in_err-put_line : goal.returns-in_err-put_line
returns-in_err-put_line g c =
    let line = g.L.ReplyLines.line c.args.lines.now in
    let inserts = g.L.ReplyLines.inserts c.args.lines.now in
    let text : List CompletionCandidate → List ℕ = λ all. flat_map line (filter (λ candidate. inserts candidate.value) all) in
    let item = c.candidate-item.result in
    let insertable : inserts item.value ≡ true =
    ap inserts (sym c.get_value.ensures) ∙ sym c.can_insert.ensures ∙ c.if-not-can_insert.false in
    put_stopped _ c.from_residual.ensures.1
    (stops_at text c.args.candidates.now c.loop-candidate.candidate-index item (line item) c.loop-candidate-test.true
    c.candidate-item.is (rw insertable refl) c.loop-candidate.invariant c.in_err-put_line.ensures)
