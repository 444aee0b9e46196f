use Rattle.std.proofs.Common.{◌≡◌, ℕ, List, Option, take, map}
use Rattle.std.specs.BTreeMap.{get}
use Rattle.cc_candidates.specs.Candidate.{texts_cmp}
use Rattle.cc_engine.specs.Finished.{rank_of}
use Rattle.cc_engine.specs.Seen.{first_rank}
use Rattle.cc_engine.proofs.gathering.finishing.ranks.Given as goal

-- the map contains the first ranks of the tags so far
abbrev pub invariant-loop-candidate : goal.invariant-loop-candidate
invariant-loop-candidate l = record {
  ranks : l.ranks.items ≡ map (λ c. rank_of l.candidates c.tag) (take l.candidate-index l.candidates);
  known : (tag : Option (List ℕ)) → get texts_cmp l.known tag ≡ first_rank (take l.candidate-index l.candidates) tag;
}
