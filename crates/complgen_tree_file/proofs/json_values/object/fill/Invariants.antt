use Rattle.std.proofs.Common.{◌≡◌, ◌≤◌, ◌&&◌, drop, length, map}
use Rattle.std.specs.List.{list_all, list_any}
use Rattle.std.specs.Str.{bytes_eq}
use Rattle.json.specs.Value as views
use Rattle.serde_json.specs.Data.{Members}
use Rattle.complgen_tree_file.specs.JsonSeen.{members_put, members_view}
use Rattle.complgen_tree_file.specs.JsonSlots.{Hold, members_at}
use Rattle.complgen_tree_file.proofs.json_values.object.fill.Given as goal

-- the slots hold what was found, which is the whole with the members that are left
abbrev pub invariant-loop-member : goal.invariant-loop-member
invariant-loop-member l =
    (found : Members)
    × (members_put (views.members_view (drop l.member-index l.member-items)) found ≡ members_view l.member-items)
    × Hold l.slots (members_at (map (λ key. key.now) l.keys) found)
    × (length l.keys ≤ length l.slots)
    × ((l.are_known && list_all (λ member. list_any (λ known. bytes_eq known.now member.0.now) l.keys) (drop l.member-index l.member-items))
    ≡ list_all (λ member. list_any (λ known. bytes_eq known.now member.0.now) l.keys) l.member-items)
