use Rattle.std.proofs.Common.{◌≡◌, ◌∙◌, ap, sym}
use Rattle.std.specs.Option.{option_map}
use Rattle.json.specs.Json.{object}
use Rattle.json.specs.Value.{members_view, value_view}
use Rattle.json.proofs.Trees.{view-Object}
use Rattle.serde_json.specs.Find.{get}
use Rattle.complgen_tree_file.specs.JsonSeen.{data_of}
use Rattle.complgen_tree_file.proofs.JsonFound.{member_seen, reference_seen}
use Rattle.complgen_tree_file.proofs.json_values.look.member.Goals as goal

pub returns-in-Object : goal.returns-in-Object
returns-in-Object c =
    let key = c.args.key.now in
    let ms = c.in-Object.members.items in
    let is : value_view c.args.value.now ≡ object (members_view ms) =
    ap value_view c.in-Object.is ∙ view-Object c.in-Object.members in
    reference_seen c.last_member.result ∙ ap (option_map data_of) c.last_member.ensures
    ∙ member_seen key (object (members_view ms)) ∙ sym (ap (λ j. get key (data_of j)) is)
