-- The effect of a call that writes a script to a file, and how it ends.
use Rattle.std.specs.Prelude.{◌≡◌, ◌⊎◌, ℕ, List, Option, None, Some, Result, Ok, Err, IfErr}
use Rattle.cc_base.specs.declared.error.Error.{Error}
use Rattle.cc_base.specs.declared.error.Error.TheVariants.{LabelClash, Memory}
use Rattle.cc_base.specs.Writes.{IsMemoryOrWrite}
use Rattle.cc_command.specs.Tree.{Tree}

-- the call leaves the built tree; only if it fails with `Memory` may it leave the tree as it was
abbrev pub LeavesTree : {T : Type 0} → Result T Error → Tree → Tree → Tree → Type 0
LeavesTree (Err Memory) old new built = (new ≡ old) ⊎ (new ≡ built)
LeavesTree _ old new built = new ≡ built

-- If two nodes share a label, the call fails with that label or with `Memory`. Otherwise its only
-- errors are `Memory` and `Write`.
abbrev pub EndsFile : {T : Type 0} → Result T Error → Option (List ℕ) → Type 0
EndsFile result None = IfErr result IsMemoryOrWrite
EndsFile (Ok _) (Some label) = ⊥
EndsFile (Err error) (Some label) = (error ≡ LabelClash label) ⊎ (error ≡ Memory)
