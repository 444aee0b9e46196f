use Rattle.std.proofs.Common.{rules}
use Rattle.cc_engine.proofs.InTurn.{ranks_on, known_on}
use Rattle.cc_engine.proofs.gathering.finishing.ranks.Goals as goal

pub loop-candidate-preserved : goal.loop-candidate-preserved
loop-candidate-preserved c = record {
  ranks = ranks_on c.args.candidates.now c.loop-candidate.candidate-index c.candidate-item.result c.loop-candidate.ranks.items c.push.new.self.items
      _ c.len.result c.in_ok-rank.rank c.loop-candidate-test.true c.candidate-item.is c.loop-candidate.invariant.ranks
      (c.loop-candidate.invariant.known c.candidate-item.result.tag) (search rules) c.in_ok-rank.ensures.value c.in_ok-push.ensures.items;
  known = known_on c.loop-candidate.known c.rank_for.new.known c.args.candidates.now c.loop-candidate.candidate-index c.candidate-item.result
      c.loop-candidate.ranks.items c.len.result c.loop-candidate-test.true c.candidate-item.is c.loop-candidate.invariant.ranks (search rules)
      c.loop-candidate.invariant.known c.in_ok-rank.ensures.kept;
}
