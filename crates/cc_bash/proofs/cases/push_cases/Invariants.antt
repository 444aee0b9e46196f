use Rattle.std.proofs.Common.{◌≡◌, ◌++◌, map}
use Rattle.cc_command.specs.Iterators.{names_left}
use Rattle.cc_command.specs.Names.{visible_names}
use Rattle.cc_bash.specs.CaseTable.{Case}
use Rattle.cc_bash.specs.Nodes.{case_of}
use Rattle.cc_bash.proofs.cases.push_cases.Given as goal

-- the cases so far and those of the remaining names make up the whole
abbrev pub invariant-loop-word : goal.invariant-loop-word
invariant-loop-word l =
    map case_of l.cases.items ++ map (λ name. let c : Case =
    record { from = l.from; word = name; to = l.to } in c) (names_left l.word-iterator)
    ≡ map case_of l.initial.cases.items
    ++ map (λ name. let c : Case = record { from = l.from; word = name; to = l.to } in c)
    (visible_names l.node.command.now.node)
