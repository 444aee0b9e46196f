use Rattle.std.proofs.Common.{rules}
use Rattle.std.proofs.lemmas.Map.Views.{All-map-IsPermutation}
use Rattle.complgen_tree_file.proofs.FaultLemmas.{nil_by_length}
use Rattle.complgen_check.specs.Findings.{IsError, shown}
use Rattle.complgen_check.proofs.errors.checking.in_order.Goals as goal

pub returns-clause-none : goal.returns-clause-none
returns-clause-none c = nil_by_length _ _ (search rules)

pub returns-clause-errors : goal.returns-clause-errors
returns-clause-errors c =
    All-map-IsPermutation shown IsError _ _ c.sort_by_key.ensures.permutation
