-- The constants of the code are the fixed texts, for the search of parts of a text.
use Rattle.std.proofs.Common.{◌≡◌, [], ◌∷◌, refl}
use Rattle.std.proofs.lemmas.Grind.{common_steps}
use Rattle.cc_base.specs.Partly.{partly_self, partly_split}
use Rattle.cc_zsh.specs.Nested.{block_begins, block_ends, command_begins, state_begins, state_ends}
use Rattle.cc_zsh.specs.Script.{fixed_texts}
use Rattle.cc_zsh.specs.declared.texts.TheConstants.{BLOCK_BEGINS, BLOCK_ENDS, COMMAND_BEGINS, STATE_BEGINS, STATE_ENDS}

pub blocks_are : block_begins ∷ block_ends ∷ command_begins ∷ state_begins ∷ state_ends ∷ []
    ≡ BLOCK_BEGINS.now ∷ BLOCK_ENDS.now ∷ COMMAND_BEGINS.now ∷ STATE_BEGINS.now ∷ STATE_ENDS.now ∷ []
unfolding fixed_texts
blocks_are = refl

pub ruleset in_blocks = (common_steps, partly_split, partly_self, blocks_are)
