use Rattle.std.proofs.Common.{rules, arith}
use Rattle.std.proofs.lemmas.Grind.{common_steps}
use Rattle.cc_engine.proofs.InTurn.{unseen_first, marks_on}
use Rattle.cc_engine.proofs.gathering.finishing.new_ids.Goals as goal

pub loop-candidate-init : goal.loop-candidate-init
loop-candidate-init c = record {
  count = search rules;
  kept = unseen_first c.new-seen.result c.in_ok-marks.marks.items c.args.candidates.now c.new-seen.ensures.empty c.in_ok-marks.ensures.items;
}

pub loop-candidate-preserved : goal.loop-candidate-preserved
loop-candidate-preserved c = record {
  count = grind (arith, common_steps, c.in_ok-push.ensures.items, c.loop-candidate.invariant.count);
  kept = marks_on c.loop-candidate.seen c.insert_id.new.seen c.loop-candidate.marks.items c.push.new.self.items c.args.candidates.now c.loop-candidate.candidate-index
      c.candidate-item.result c.in_ok-new.new c.loop-candidate-test.true c.candidate-item.is c.loop-candidate.invariant.count c.loop-candidate.invariant.kept
      c.in_ok-new.ensures.kept c.in_ok-new.ensures.new c.in_ok-push.ensures.items;
}
