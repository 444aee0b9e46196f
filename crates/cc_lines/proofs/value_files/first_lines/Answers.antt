use Rattle.std.proofs.Common.{◌≡◌, ◌∙◌, ap, arith, sym, take}
use Rattle.cc_lines.specs.ValueFiles.{whole_lines}
use Rattle.cc_lines.proofs.FirstLines.{lines_at_end, lines_before, lines_of_longer}
use Rattle.cc_lines.proofs.value_files.first_lines.Goals as goal
use Rattle.cc_lines.proofs.value_files.first_lines.Goals.{then-loop-end-test+else-bytes-end-ne10, else-loop-end-test}

pub loop-end-preserved : goal.loop-end-preserved
loop-end-preserved c = record {
  within = omega (arith, c.loop-end.invariant.within);
  same = c.loop-end.invariant.same ∙ lines_before c.args.bytes.now c.loop-end.end
      c.loop-end-test.true
      (omega (arith, c.loop-end.invariant.within, c.if-bytes-limit.false))
      c.if-bytes-end-ne10.true;
}

pub returns : goal.returns
returns c = elim c.loop-end-test.branch [
  | then-loop-end-test+else-bytes-end-ne10 w ↦
      lines_at_end c.args.bytes.now c.loop-end.end w.loop-end-test.true
      (omega (arith, c.loop-end.invariant.within, c.if-bytes-limit.false))
      w.if-bytes-end-ne10.false
      ∙ sym (lines_of_longer c.args.limit c.args.bytes.now c.if-bytes-limit.false
      ∙ c.loop-end.invariant.same)
  | else-loop-end-test w ↦
      let at_start : c.loop-end.end ≡ 0 = omega (arith, w.loop-end-test.false) in
      ap (λ n. take n c.args.bytes.now) at_start
      ∙ sym (lines_of_longer c.args.limit c.args.bytes.now c.if-bytes-limit.false
      ∙ c.loop-end.invariant.same ∙ ap (λ n. whole_lines (take n c.args.bytes.now)) at_start)
]
