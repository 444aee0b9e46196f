use Rattle.std.proofs.Common.{◌≡◌, ◌∙◌, ◌++◌, ◌+◌, [], ◌∷◌, List, ap, subst, sym, take}
use Rattle.std.proofs.lemmas.List.{take_more}
use Rattle.complgen_lints.specs.declared.warning.Warning.{Warning}
use Rattle.complgen_check.specs.Checking.{AreWarnings}
use Rattle.complgen_check.specs.declared.errors.finding.Finding.{Finding}
use Rattle.complgen_check.proofs.SoundLemmas.{one_more}
use Rattle.complgen_check.proofs.checking.warned.Goals as goal

pub loop-warning-preserved : goal.loop-warning-preserved
loop-warning-preserved c =
    let warnings = c.args.warnings.now in
    let index = c.loop-warning.warning-index in
    let before = take index warnings in
    let warning = c.warning-item.result in
    let found = c.loop-warning.found.items in
    let finding = c.in_ok-finding.field-0 in
    let pushed : c.push.new.self.items ≡ found ++ finding ∷ [] = c.in_ok-push.ensures.items in
    let taken : take (index + 1) warnings ≡ before ++ warning ∷ [] =
    take_more warnings index warning c.loop-warning-test.true
    ∙ ap (λ one. before ++ one ∷ []) (sym c.warning-item.is) in
    subst (λ (some : List Warning). AreWarnings some c.push.new.self.items) (sym taken)
    (subst (λ (some : List Finding). AreWarnings (before ++ warning ∷ []) some) (sym pushed)
    (one_more before found warning finding c.loop-warning.invariant c.in_ok-finding.ensures))
