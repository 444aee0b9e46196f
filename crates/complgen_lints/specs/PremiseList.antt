-- The premises of the promises about scripts that do not hold for a tree, with their places, except
-- the one about labels of the bash script.
use Rattle.std.specs.Prelude.{ℕ, suc, List, [], ◌∷◌, ◌++◌, map, Option, None, Some}
use Rattle.cc_base.specs.PlainName.{is_plain_name}
use Rattle.cc_command.specs.Tree.{Forest, none, more, Tree}
use Rattle.complgen_lints.specs.Findings.{placed_finding}
use Rattle.complgen_lints.specs.Lists.{unless}
use Rattle.complgen_lints.specs.SiblingNames.{taken_names}
use Rattle.complgen_lints.specs.TextLints.{text_list}
use Rattle.complgen_lints.specs.declared.found.Finding.{Finding}
use Rattle.complgen_lints.specs.declared.place.Key.{Key}
use Rattle.complgen_lints.specs.declared.place.Key.TheVariants.{BinName}
use Rattle.complgen_lints.specs.declared.text_lints.TextLint.TheVariants.{Plain, Quiet, Quotes}
use Rattle.complgen_lints.specs.declared.warning.Premise.{Premise}
use Rattle.complgen_lints.specs.declared.warning.Premise.TheVariants.{BinNotPlain, NotPlain}

-- a bin name that is not plain: that of a call, which has no key, or the root's
abbrev pub bin_premise : Option Key → List ℕ → Premise
bin_premise None name = BinNotPlain name
bin_premise (Some key) name = NotPlain name

abbrev pub bin_list : Option Key → Option (List ℕ) → List (Finding Premise)
bin_list key None = []
bin_list key (Some name) = unless (is_plain_name name) (record {
  place = record { command = []; argument = None; key = key; item = None };
  kind = bin_premise key name;
})

-- what is wrong with the names of a command and of its arguments, then with their texts: values that
-- bash changes or runs, and quotes that the PowerShell script does not escape
abbrev pub premises_of : Tree → List (Finding Premise)
premises_of tree = ((text_list Plain tree ++ taken_names tree.children)
    ++ text_list Quiet tree) ++ text_list Quotes tree

-- the same for siblings below a path, from this index on: for each command, then for those below it
abbrev pub forest_list : List ℕ → ℕ → Forest → List (Finding Premise)
forest_list path index none = []
forest_list path index (more node below rest) =
    (map (placed_finding (path ++ index ∷ [])) (premises_of (record { node = node; children = below }))
    ++ forest_list (path ++ index ∷ []) 0 below)
    ++ forest_list path (suc index) rest

-- the same for the command at a path, then for those below it
abbrev pub tree_list : List ℕ → Tree → List (Finding Premise)
tree_list path tree =
    map (placed_finding path) (premises_of tree) ++ forest_list path 0 tree.children

-- the same for a whole tree: for the bin name of the call and that of the root, then command by
-- command
abbrev pub premise_list : Option (List ℕ) → Tree → List (Finding Premise)
premise_list bin tree = (bin_list None bin ++ bin_list (Some BinName) tree.node.bin_name)
    ++ tree_list [] tree
