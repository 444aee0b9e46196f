use Rattle.std.proofs.Common.{◌≡◌, ◌++◌, ◌∙◌, ap, arith, rules, take}
use Rattle.std.proofs.lemmas.Grind.{common_steps}
use Rattle.complgen_lints.specs.PlacedNames.{owner_in, owner_with, taken_by}
use Rattle.complgen_lints.proofs.Taken.{next_taken}
use Rattle.complgen_lints.proofs.siblings.push_taken.Goals as goal

pub loop-name-preserved : goal.loop-name-preserved
loop-name-preserved c =
    let names = c.args.names.now in
    let index = c.loop-name.name-index in
    let name = c.name-item.result in
    let known : c.in_ok-owner.owner ≡ owner_with (take index names) name.name =
    c.in_ok-owner.ensures.earlier ∙ ap (λ text. owner_in c.loop-name.seen text) c.as_str.ensures
    ∙ c.loop-name.invariant.kept name.name in
    let added : c.push_if_taken.new.found ≡ c.loop-name.found ++ taken_by c.in_ok-owner.owner name = search rules in
    record {
      kept = λ word. grind (arith, common_steps, c.loop-name.invariant.kept word, c.in_ok-owner.ensures.kept word);
      whole = next_taken c.loop-name.found c.push_if_taken.new.found _ names index name
          c.in_ok-owner.owner c.loop-name-test.true c.name-item.is known added c.loop-name.invariant.whole;
    }
