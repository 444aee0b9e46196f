-- The effect of a call that builds a command and then writes its page.
use Rattle.std.specs.Prelude.{◌≡◌, ℕ, List, Result, Err}
use Rattle.cc_base.specs.declared.error.Error.{Error}
use Rattle.cc_base.specs.declared.error.Error.TheVariants.{Memory}
use Rattle.cc_command.specs.Tree.{Tree}

-- The call leaves the built tree. If it fails with `Memory`, it leaves the tree as it was, and the
-- sink has taken nothing.
abbrev pub LeavesBuilt : Result (Unit {0}) Error → Tree → Tree → Tree → List ℕ → List ℕ → Type 0
LeavesBuilt (Err Memory) old new built taken_old taken_new = (new ≡ old) × (taken_new ≡ taken_old)
LeavesBuilt _ old new built taken_old taken_new = new ≡ built
