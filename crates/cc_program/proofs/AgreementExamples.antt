-- The labels to which the cases of a small tree's script lead.
use Rattle.std.proofs.Common.{◌≡◌, ℕ, List, [], ◌∷◌, codes, refl}
use Rattle.std.specs.Fmt.{digits}
use Rattle.std.specs.Char.{encode_utf8}
use Rattle.cc_base.specs.Sorting.{insert, in_order}
use Rattle.cc_bash.specs.Arms.{tree_arms, words_at, details_at}
use Rattle.cc_bash.specs.CaseTable.{tree_cases}
use Rattle.cc_command.specs.Made.{new_node, new_tree}
use Rattle.cc_command.specs.Tree.{Tree, more, none}
use Rattle.cc_engine.specs.Visible.{HasNoHiddenAlias}
use Rattle.cc_program.specs.BashAgreement.{BashLeadsTo}

-- `app` with the child `run`
abbrev run : Tree
run = new_tree (codes "run")

abbrev app : Tree
app = record { node = new_node (codes "app"); children = more run.node none none }

abbrev words : List (List ℕ)
words = codes "run" ∷ []

no_alias : HasNoHiddenAlias app words
no_alias = refl

-- the word leads to the child, whose label and arm are found
to_child : BashLeadsTo app words run
unfolding insert in_order tree_cases tree_arms words_at details_at digits encode_utf8
to_child = record { label = refl; node = refl; arm = refl }

-- and not to the root
not_to_root : BashLeadsTo app words app → ⊥
not_to_root leads = let e : run ≡ app = leads.node in cc

-- the empty list of words leads to the root
to_root : BashLeadsTo app [] app
unfolding insert in_order tree_cases tree_arms words_at details_at digits encode_utf8
to_root = record { label = refl; node = refl; arm = refl }
