use Rattle.std.proofs.Common.{◌≡◌, ◌+◌, ◌-◌, [], ◌∷◌, ◌++◌, take, Bool, true, false, cond, Some, sym, ap, ◌∙◌, arith}
use Rattle.std.proofs.lemmas.List.{take_more}
use Rattle.std.specs.Str.{bytes_eq}
use Rattle.json.specs.Find.{get_member}
use Rattle.json.specs.Value.{value_view, members_view}
use Rattle.json.proofs.Trees.{get_member-push}
use Rattle.complgen_tree_file.proofs.json_values.look.last_member.Goals as goal

pub returns-then-is_same : goal.returns-then-is_same
returns-then-is_same c =
    let xs = c.args.members.now.items in
    let i = c.loop-left.left - 1 in
    let m = c.index-member.result.now in
    let key = c.args.key.now in
    let next : c.loop-left.left ≡ i + 1 = omega arith in
    let front : take c.loop-left.left xs ≡ take i xs ++ m ∷ [] = ap (λ k. take k xs) next ∙ take_more xs i m (omega arith) ∙ ap (λ y. take i xs ++ y ∷ []) (sym c.index-member.ensures) in
    let step = c.loop-left.invariant.0 ∙ ap (λ ys. get_member key (members_view ys)) front ∙ get_member-push key (take i xs) m in
    let pick = λ (b : Bool). cond b (Some (value_view m.1)) (get_member key (members_view (take i xs))) in
    let same : bytes_eq m.0.now key ≡ true = grind arith in
    sym (step ∙ ap pick same)

pub loop-left-preserved : goal.loop-left-preserved
loop-left-preserved c =
    let xs = c.args.members.now.items in
    let i = c.loop-left.left - 1 in
    let m = c.index-member.result.now in
    let key = c.args.key.now in
    let next : c.loop-left.left ≡ i + 1 = omega arith in
    let front : take c.loop-left.left xs ≡ take i xs ++ m ∷ [] = ap (λ k. take k xs) next ∙ take_more xs i m (omega arith) ∙ ap (λ y. take i xs ++ y ∷ []) (sym c.index-member.ensures) in
    let step = c.loop-left.invariant.0 ∙ ap (λ ys. get_member key (members_view ys)) front ∙ get_member-push key (take i xs) m in
    let pick = λ (b : Bool). cond b (Some (value_view m.1)) (get_member key (members_view (take i xs))) in
    let other : bytes_eq m.0.now key ≡ false = grind arith in
    (step ∙ ap pick other, omega arith)
