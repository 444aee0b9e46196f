use Rattle.std.proofs.Common.{length}
use Rattle.cc_arg.proofs.value_source.+same_texts.Given as goal

-- the texts that are left
abbrev pub decreases-same_texts : goal.decreases-same_texts
decreases-same_texts l = length l.texts.now
