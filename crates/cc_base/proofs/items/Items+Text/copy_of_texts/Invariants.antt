use Rattle.std.proofs.Common.{◌≡◌, take}
use Rattle.cc_base.proofs.items.Items+Text.copy_of_texts.Given as goal

-- the copy holds the texts before the index
abbrev pub invariant-loop-text : goal.invariant-loop-text
invariant-loop-text l = l.copy ≡ take l.text-index l.texts
