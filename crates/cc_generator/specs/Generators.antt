-- The scripts of a shell, and the effect of a call that writes the script of a command tree.
use Rattle.std.specs.Prelude.{◌≡◌, ◌⊎◌, ℕ, List, ◌++◌, ◌&&◌, true, Option, Some, None, is_some, IsTrue, Result, Err, OnOk, OnErr, IfErr}
use Rattle.cc_base.specs.declared.error.Error.{Error}
use Rattle.cc_base.specs.declared.error.Error.TheVariants.{Memory, LabelClash}
use Rattle.cc_base.specs.declared.failures.Failures.{Failures}
use Rattle.cc_base.specs.Partly.{partly}
use Rattle.cc_base.specs.Writes.{CountsWrite, IsMemoryOrWrite}
use Rattle.cc_command.specs.Tree.{Tree}
use Rattle.cc_command.specs.Plain.{is_plain_tree}

-- the specification of the scripts for a shell
pub record ShellSpec : Type 1 where
  -- the script of a tree
  pub script : Tree → List ℕ
  -- what the script reads back to
  pub Reads : Tree → Type 0
  -- the label that two nodes of a tree share, if the script needs labels
  pub clash : Tree → Option (List ℕ)
  -- the name of the file for a program with the given name
  pub file : List ℕ → List ℕ

-- the tree is built and has a bin name
abbrev pub IsReady : Tree → Type 0
IsReady tree = IsTrue (tree.node.built && is_some tree.node.bin_name)

-- If two nodes share a label, the call fails with that label or with `Memory`, and the sink takes
-- nothing. Otherwise its only errors are `Memory` and `Write`.
abbrev pub ReportsClash : Option (List ℕ) → Result (Unit {0}) Error → List ℕ → List ℕ → Type 0
ReportsClash None result old new = IfErr result IsMemoryOrWrite
ReportsClash (Some label) result old new =
    ((result ≡ Err (LabelClash label)) ⊎ (result ≡ Err Memory)) × (new ≡ old)

-- The effect of a generator's call on its sink. On `Ok` the sink has taken the script of the tree,
-- which reads back if the tree is plain. After an error it has taken a beginning of the script. A
-- clash of labels is reported. A failed put is counted if and only if the call returns `Write`.
pub record Generates {S : Type 0} (taken : S → List ℕ) (failed : S → Failures)
    (spec : ShellSpec) (tree : Tree) (result : Result (Unit {0}) Error) (old new : S) : Type 0 where
  pub ok : OnOk result (taken new ≡ taken old ++ spec.script tree)
  pub begun : OnErr result (partly (taken new) (taken old) (spec.script tree) ≡ true)
  pub reads : OnOk result (IsTrue (is_plain_tree tree) → spec.Reads tree)
  pub clashes : ReportsClash (spec.clash tree) result (taken old) (taken new)
  pub failures : CountsWrite result (failed old) (failed new)

-- What a call that builds and then writes leaves: the built tree. Only if the call fails with
-- `Memory` may it leave the tree as it was, and then the sink has taken nothing.
abbrev pub LeavesBuilt : Result (Unit {0}) Error → Tree → Tree → Tree → List ℕ → List ℕ → Type 0
LeavesBuilt (Err Memory) old new built taken_old taken_new =
    ((new ≡ old) × (taken_new ≡ taken_old)) ⊎ (new ≡ built)
LeavesBuilt _ old new built taken_old taken_new = new ≡ built
