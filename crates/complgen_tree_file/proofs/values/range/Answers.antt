use Rattle.std.proofs.Common.{◌≡◌, ◌∙◌, Some, ap, arith, rules, sym}
use Rattle.std.specs.Prelude.{option_and_then}
use Rattle.serde_json.specs.Find.{as_array}
use Rattle.complgen_tree_file.specs.JsonSeen.{items_view, view}
use Rattle.complgen_tree_file.specs.TreeForm.{pair_of}
use Rattle.complgen_tree_file.proofs.TreeFormLemmas.{no_pair_above, no_pair_below}
use Rattle.complgen_tree_file.proofs.values.range.Goals as goal

pub returns-in_default : goal.returns-in_default
returns-in_default c =
    let is : as_array (view c.args.value.now) ≡ Some (items_view c.as_slice.result.now) = search rules in
    sym (ap (option_and_then pair_of) is ∙ no_pair_below _ (omega arith))

pub returns-in_default-2 : goal.returns-in_default-2
returns-in_default-2 c =
    let is : as_array (view c.args.value.now) ≡ Some (items_view c.as_slice.result.now) = search rules in
    sym (ap (option_and_then pair_of) is ∙ no_pair_above _ (omega arith))
