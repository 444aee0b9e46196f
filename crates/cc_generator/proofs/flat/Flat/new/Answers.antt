use Rattle.std.proofs.Common.{◌+◌, ◌<◌, ◌≤◌, List, length, sym, subst, arith}
use Rattle.std.proofs.lemmas.List.{length-map}
use Rattle.cc_generator.specs.Flat.{Entry, entry_of, entries_of, IsFlat}
use Rattle.cc_generator.proofs.Numbering.{IsFlatUpTo, IsFlatUpTo-more, IsFlat-whole}
use Rattle.cc_generator.proofs.flat.Flat.new.Goals as goal
use Rattle.cc_generator.proofs.flat.Flat.new.Goals.{After-loop-number}

pub loop-number-preserved : goal.loop-number-preserved
loop-number-preserved c =
    let before : List Entry = entries_of c.loop-number.nodes.items in
    let inside : c.loop-number.number < length before = omega (arith, length-map c.loop-number.nodes.items entry_of, c.loop-number.nodes.ok.0) in
    let P : List Entry → Type 0 = λ flat. IsFlatUpTo c.args.root.now (c.loop-number.number + 1) flat in
    subst P (sym c.in_ok-number_children.ensures) (IsFlatUpTo-more c.args.root.now c.loop-number.number before c.loop-number.invariant inside)

whole : (c : After-loop-number) → IsFlat (entries_of c.loop-number.nodes.items)
whole c =
    let all : length (entries_of c.loop-number.nodes.items) ≤ c.loop-number.number = omega (arith, length-map c.loop-number.nodes.items entry_of, c.loop-number.nodes.ok.0) in
    IsFlat-whole c.args.root.now c.loop-number.number (entries_of c.loop-number.nodes.items) c.loop-number.invariant all

pub invariant_of-result : goal.invariant_of-result
invariant_of-result c = whole c

pub returns-clause-flat : goal.returns-clause-flat
returns-clause-flat c = whole c
