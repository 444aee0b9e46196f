use Rattle.std.proofs.Common.{◌≡◌, ◌∙◌, ◌++◌, [], ◌∷◌, All, ap, arith, length, length-append, map, rules, subst, sym}
use Rattle.std.proofs.lemmas.List.{map-append}
use Rattle.std.proofs.lemmas.List.Elements.{All-push}
use Rattle.std.specs.Vec.Iter.{into_iter_items}
use Rattle.complgen_check.specs.Findings.{IsError, shown}
use Rattle.complgen_check.proofs.errors.checking.errors.Goals as goal

pub loop-fault-preserved : goal.loop-fault-preserved
loop-fault-preserved c =
    let before = c.loop-fault.errors.items in
    let error = c.in_ok-error.field-0 in
    let left : into_iter_items c.loop-fault.fault-iterator
    ≡ c.in-Some.fault ∷ into_iter_items c.next.new.self = search rules in
    let pushed : c.push.new.self.items ≡ before ++ error ∷ [] = c.in_ok-push.ensures.items in
    let parts : map shown c.push.new.self.items ≡ map shown before ++ shown error ∷ [] =
    ap (map shown) pushed ∙ map-append shown before (error ∷ []) in
    record {
      count = omega (arith, ap length pushed ∙ length-append before (error ∷ []), ap length left, c.loop-fault.invariant.count);
      errors = subst (All IsError) (sym parts)
          (All-push IsError (map shown before) (shown error) c.loop-fault.invariant.errors
          c.in_ok-error.ensures);
    }
