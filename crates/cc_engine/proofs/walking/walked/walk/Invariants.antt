use Rattle.std.proofs.Common.{map, string_bytes, ◌≡◌, ◌≤◌, ◌+◌, drop}
use Rattle.cc_engine.specs.Machine.{walk}
use Rattle.cc_engine.specs.NodeStates.{node_state_of}
use Rattle.cc_engine.proofs.Whole.{walked}
use Rattle.cc_engine.proofs.walking.walked.walk.Given as goal

abbrev pub invariant-loop-word : goal.invariant-loop-word
invariant-loop-word l = record {
  position : l.walked.state.position ≤ l.word-index + 1;
  rest : walk (node_state_of l.walked) (map string_bytes (drop l.word-index l.words)) ≡ walked l.root (map string_bytes l.words);
}
