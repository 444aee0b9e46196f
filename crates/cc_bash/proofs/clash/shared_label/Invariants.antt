use Rattle.std.proofs.Common.{◌≡◌, ℕ, List, [], ◌∷◌, take, drop, map}
use Rattle.cc_command.specs.Names.{contains_name}
use Rattle.cc_bash.specs.Labels.{first_again}
use Rattle.cc_bash.specs.Seen.{is_seen}
use Rattle.cc_bash.proofs.clash.shared_label.Given as goal

-- the labels of the nodes before the index have been seen, and none of them occurred twice
abbrev pub invariant-loop-node : goal.invariant-loop-node
invariant-loop-node l = record {
  seen : (word : List ℕ) → is_seen l.seen word
      ≡ contains_name (l.root ∷ map (λ node. node.label) (take l.node-index l.nodes)) word;
  left : first_again (l.root ∷ map (λ node. node.label) (take l.node-index l.nodes))
      (map (λ node. node.label) (drop l.node-index l.nodes))
      ≡ first_again [] (l.root ∷ map (λ node. node.label) l.nodes);
}
