use Rattle.std.proofs.Common.{◌≡◌, ◌∙◌, ◌&&◌, ◌+◌, [], ap, arith, drop, map, refl, subst, sym}
use Rattle.std.specs.List.{list_all, list_any}
use Rattle.std.specs.Str.{bytes_eq}
use Rattle.std.proofs.Math.Bool.{and-true}
use Rattle.std.proofs.Math.ListN.{drop_of_length-le}
use Rattle.json.specs.Value as views
use Rattle.serde_json.specs.Data.{no_members, put}
use Rattle.complgen_tree_file.specs.JsonSeen.{members_put, members_view, view}
use Rattle.complgen_tree_file.specs.JsonSlots.{Hold, members_at}
use Rattle.complgen_tree_file.proofs.JsonFound.{Member, front_of, known_step}
use Rattle.complgen_tree_file.proofs.json_values.object.fill.Goals as goal

pub loop-member-init : goal.loop-member-init
loop-member-init c = (no_members, refl, c.requires.empty, c.requires.few, refl)

pub loop-member-preserved : goal.loop-member-preserved
loop-member-preserved c =
    let ms = c.deref-member-items.result.now in
    let i = c.loop-member.member-index in
    let m = c.member-item.result in
    let inv = c.loop-member.invariant in
    let test = λ (member : Member). list_any (λ known. bytes_eq known.now member.0.now) c.args.keys.now in (
      put m.0.now (view m.1) inv.0,
      sym (ap (λ ys. members_put (views.members_view ys) inv.0) (front_of ms i m (omega arith) c.member-item.is)) ∙ inv.1,
      c.place.ensures.placed inv.0 inv.2,
      omega (arith, inv.3, c.place.ensures.same_count),
      ap (λ b. b && list_all test (drop (i + 1) ms)) c.both-are_known.ensures
          ∙ known_step test ms i m c.loop-member.are_known c.place.result (list_all test ms) (omega arith) c.member-item.is
          c.place.ensures.known inv.4,
    )

pub returns-clause-known : goal.returns-clause-known
returns-clause-known c =
    let ms = c.deref-member-items.result.now in
    let test = λ (member : Member). list_any (λ known. bytes_eq known.now member.0.now) c.args.keys.now in
    let known = c.loop-member.are_known in
    let left : drop c.loop-member.member-index ms ≡ [] = drop_of_length-le ms (omega arith) in
    sym (and-true known) ∙ sym (ap (λ ys. known && list_all test ys) left) ∙ c.loop-member.invariant.4
    ∙ ap (list_all test) c.deref-member-items.ensures.value

pub returns-clause-held : goal.returns-clause-held
returns-clause-held c =
    let ms = c.deref-member-items.result.now in
    let ks = map (λ key. key.now) c.args.keys.now in
    let inv = c.loop-member.invariant in
    let left : drop c.loop-member.member-index ms ≡ [] = drop_of_length-le ms (omega arith) in
    subst (λ found. Hold c.loop-member.slots (members_at ks found))
    (sym (ap (λ ys. members_put (views.members_view ys) inv.0) left) ∙ inv.1
    ∙ ap members_view c.deref-member-items.ensures.value) inv.2
