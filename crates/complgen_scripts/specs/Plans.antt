-- The parts of a plan.
use Rattle.std.specs.Prelude.{ℕ, List, None, Option, Some, string_bytes}
use Rattle.complgen_scripts.specs.declared.plans.Plan.{Plan}
use Rattle.complgen_scripts.specs.declared.plans.Plan.TheVariants.{Candidates, CandidatesWith}
use Rattle.complgen_scripts.specs.declared.plans.Plan.TheVariants.{Check, Man, Register, Script}
use Rattle.complgen_scripts.specs.declared.plans.Plan.TheVariants.{Scripts, Wanted}

-- the path of the tree file
abbrev pub tree_of : Plan → List ℕ
tree_of (Script shell bin tree) = string_bytes tree
tree_of (Register shell bin tree) = string_bytes tree
tree_of (Candidates index tree words) = string_bytes tree
tree_of (CandidatesWith values index tree words) = string_bytes tree
tree_of (Wanted index tree words) = string_bytes tree
tree_of (Check bin json tree) = string_bytes tree
tree_of (Man bin tree) = string_bytes tree
tree_of (Scripts bin out_dir tree) = string_bytes tree

-- the path of the file with values, if the plan reads one
abbrev pub values_of : Plan → Option (List ℕ)
values_of (CandidatesWith values index tree words) = Some (string_bytes values)
values_of _ = None
