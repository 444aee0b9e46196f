use Rattle.std.proofs.Common.{◌≡◌, ◌+◌, ◌&&◌, ◌∙◌, true, false, drop, ap, ap₂, sym, rules}
use Rattle.std.proofs.lemmas.List.{take_rest}
use Rattle.cc_command.specs.Tree.{forest_of}
use Rattle.cc_command.specs.Plain.{all_differ, names_of}
use Rattle.cc_command.proofs.DifferentNames.{are_apart_from, siblings_differ-failed, siblings_differ-passed, siblings_differ-done}
use Rattle.cc_command.proofs.command.plain.siblings_differ.Goals.{then-not-names_differ-via-then-not-names_differ, then-not-names_differ-via-else-not-names_differ+then-not-is_apart_from}
use Rattle.cc_command.proofs.command.plain.siblings_differ.Goals as goal

pub returns-then-not-names_differ : goal.returns-then-not-names_differ
returns-then-not-names_differ c =
    let siblings = c.args.siblings.now in
    let position = c.loop-position.position in
    let names = names_of c.index-siblings-position.result.node in
    let apart = are_apart_from (forest_of (drop (position + 1) siblings)) names in
    siblings_differ-failed siblings position c.index-siblings-position.result _ c.loop-position-test.true (search rules) c.loop-position.invariant
    (elim c.then-not-names_differ.branch [
      | then-not-names_differ-via-then-not-names_differ w ↦
          let differ : all_differ names ≡ false = search rules in
          ap (λ b. b && apart) differ
      | then-not-names_differ-via-else-not-names_differ+then-not-is_apart_from w ↦
          let differ : all_differ names ≡ true = search rules in
          let shared : w.is_apart_from.result ≡ false = search rules in
          ap₂ (λ a b. a && b) differ
          (ap (λ later. are_apart_from (forest_of later) names) (sym (take_rest siblings (position + 1))) ∙ sym w.is_apart_from.ensures ∙ shared)
    ])

pub loop-position-preserved : goal.loop-position-preserved
loop-position-preserved c =
    let siblings = c.args.siblings.now in
    let position = c.loop-position.position in
    let names = names_of c.index-siblings-position.result.node in
    let differ : all_differ names ≡ true = search rules in
    let apart : c.is_apart_from.result ≡ true = search rules in
    siblings_differ-passed siblings position c.index-siblings-position.result _ c.loop-position-test.true (search rules) c.loop-position.invariant
    (ap₂ (λ a b. a && b) differ
    (ap (λ later. are_apart_from (forest_of later) names) (sym (take_rest siblings (position + 1))) ∙ sym c.is_apart_from.ensures ∙ apart))

pub returns : goal.returns
returns c =
    siblings_differ-done c.args.siblings.now c.loop-position.position _ c.loop-position-test.false c.loop-position.invariant
