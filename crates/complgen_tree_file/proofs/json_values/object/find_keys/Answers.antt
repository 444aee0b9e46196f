use Rattle.std.proofs.Common.{◌≡◌, ◌∙◌, ap, map, subst, sym}
use Rattle.json.proofs.Trees.{view-Object}
use Rattle.serde_json.specs.Data.{object}
use Rattle.complgen_tree_file.specs.JsonKeys.{has_only}
use Rattle.complgen_tree_file.specs.JsonSeen.{data_of, members_view, view}
use Rattle.complgen_tree_file.specs.JsonSlots.{Hold, values_at}
use Rattle.complgen_tree_file.proofs.JsonFound.{known_seen}
use Rattle.complgen_tree_file.proofs.json_values.object.find_keys.Goals as goal

pub returns-in-Object-clause-known : goal.returns-in-Object-clause-known
returns-in-Object-clause-known c =
    let keys = c.args.keys.now in
    let ms = c.in-Object.members.items in
    let is : view c.args.value.now ≡ object (members_view ms) =
    ap view c.in-Object.is ∙ ap data_of (view-Object c.in-Object.members) in
    c.fill.ensures.known ∙ known_seen keys ms ∙ sym (ap (has_only (map (λ key. key.now) keys)) is)

pub returns-in-Object-clause-found : goal.returns-in-Object-clause-found
returns-in-Object-clause-found c =
    let ks = map (λ key. key.now) c.args.keys.now in
    let ms = c.in-Object.members.items in
    let is : view c.args.value.now ≡ object (members_view ms) =
    ap view c.in-Object.is ∙ ap data_of (view-Object c.in-Object.members) in
    subst (λ d. Hold c.fill.new.slots (values_at ks d)) (sym is) c.fill.ensures.held
