use Rattle.std.proofs.Common.{◌≡◌, ◌∙◌, Bool, IfOk, List, ap, map, subst, sym}
use Rattle.std.specs.List.{list_all, list_any}
use Rattle.std.specs.Str.{bytes_eq}
use Rattle.json.proofs.Trees.{view-Object}
use Rattle.serde_json.specs.Data.{object}
use Rattle.complgen_tree_file.specs.JsonKeys.{has_only}
use Rattle.complgen_tree_file.specs.JsonSeen.{data_of, members_view, view}
use Rattle.complgen_tree_file.proofs.JsonFound.{Member, known_seen}
use Rattle.complgen_tree_file.specs.Faults.{FindsUnless}
use Rattle.complgen_tree_file.proofs.objects.note_keys.Goals as goal

pub returns-in-Object : goal.returns-in-Object
returns-in-Object c =
    let keys = c.args.keys.now in
    let ms = c.in-Object.members.items in
    let is : view c.args.tree.now ≡ object (members_view ms) =
    ap view c.in-Object.is ∙ ap data_of (view-Object c.in-Object.members) in
    let Finds : Bool → Type 0 = λ known. IfOk c.note_members.result
    (λ _. FindsUnless known c.args.faults.now c.note_members.new.faults) in
    subst Finds
    (ap (λ (ms : List Member). list_all (λ m. list_any (λ known. bytes_eq known.now m.0.now) keys) ms)
    c.as_slice.ensures.value
    ∙ known_seen keys ms ∙ sym (ap (has_only (map (λ key. key.now) keys)) is))
    c.note_members.ensures
