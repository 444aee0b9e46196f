use Rattle.std.proofs.Common.{◌≡◌, map, take}
use Rattle.cc_caller.proofs.branches.copies_of.Given as goal

abbrev pub invariant-loop-word : goal.invariant-loop-word
invariant-loop-word l = l.copies.items ≡ map (λ word. word.now) (take l.word-index l.words)
