-- The node and the state to which the words lead, with the node as a tree.
use Rattle.cc_engine.specs.declared.walking.walked.Walked.{Walked}
use Rattle.cc_engine.specs.Machine.{NodeState}

abbrev pub node_state_of : Walked → NodeState
node_state_of walked = record { tree = walked.command.now; state = walked.state }
