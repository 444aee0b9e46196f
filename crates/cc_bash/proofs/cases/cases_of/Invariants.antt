use Rattle.std.proofs.Common.{◌≡◌, ◌++◌, drop, map, flat_map}
use Rattle.cc_bash.specs.CaseTable.{node_cases}
use Rattle.cc_bash.specs.Nodes.{case_of, labelled_of}
use Rattle.cc_bash.proofs.cases.cases_of.Given as goal

-- the cases so far and those of the remaining nodes make up the whole
abbrev pub invariant-loop-node : goal.invariant-loop-node
invariant-loop-node l =
    map case_of l.cases.items ++ flat_map node_cases (map labelled_of (drop l.node-index l.nodes))
    ≡ flat_map node_cases (map labelled_of l.nodes)
