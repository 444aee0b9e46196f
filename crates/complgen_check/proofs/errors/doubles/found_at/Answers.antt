use Rattle.std.proofs.Common.{◌≡◌, ◌∙◌, ◌++◌, [], ◌∷◌, ap, append_assoc, map, rules, sym}
use Rattle.std.proofs.lemmas.List.{map-append}
use Rattle.std.specs.Vec.Iter.{into_iter_items}
use Rattle.complgen_check.specs.Doubles.{shown_paths}
use Rattle.complgen_check.specs.Findings.{shown, shown_double}
use Rattle.complgen_check.specs.Places.{shown_step}
use Rattle.complgen_check.proofs.errors.doubles.found_at.Goals as goal

pub loop-path-preserved : goal.loop-path-preserved
loop-path-preserved c =
    let before = c.loop-path.found.items in
    let finding = c.in_ok-hidden_member.field-0 in
    let rest = map shown_double (shown_paths (into_iter_items c.next.new.self)) in
    let left : into_iter_items c.loop-path.path-iterator
    ≡ c.in-Some.path ∷ into_iter_items c.next.new.self = search rules in
    let said : shown finding ≡ shown_double (map shown_step c.in-Some.path.items) =
    c.in_ok-hidden_member.ensures ∙ ap (λ steps. shown_double (map shown_step steps)) c.as_slice.ensures.value in
    ap (λ items. map shown items ++ rest) c.in_ok-push.ensures.items
    ∙ ap (λ some. some ++ rest) (map-append shown before (finding ∷ []))
    ∙ append_assoc (map shown before) (shown finding ∷ []) rest
    ∙ ap (λ one. map shown before ++ one ∷ rest) said
    ∙ ap (λ paths. map shown before ++ map shown_double (shown_paths paths)) (sym left)
    ∙ c.loop-path.invariant
