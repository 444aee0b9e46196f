use Rattle.std.proofs.Common.{◌∙◌, ap, sym, rules}
use Rattle.std.specs.Option.{option_copied}
use Rattle.cc_engine.proofs.GatheredValues.{of_completer, of_list, of_nothing, of_paths, of_values}
use Rattle.std.proofs.lemmas.Result.{IfOk-weaker}
use Rattle.cc_engine.proofs.gathering.values.gather.Goals as goal

pub returns-in-Some : goal.returns-in-Some
returns-in-Some g c =
    IfOk-weaker c.complete_at.result _ _
    (λ found says. of_completer _ c.args.argument.now c.args.number c.args.part.now c.in-Some.completer found.items (sym c.get_completer.ensures ∙ c.in-Some.is) says)
    c.complete_at.ensures

pub returns-in-Some-get_candidates : goal.returns-in-Some-get_candidates
returns-in-Some-get_candidates g c =
    of_list _ c.args.argument.now c.args.number c.args.part.now c.in-Some-get_candidates.list c.in_ok-found.found.items c.retain_beginning_with.result.items
    (sym c.get_completer.ensures ∙ c.in_default.is) (sym c.get_candidates.ensures ∙ c.in-Some-get_candidates.is) c.in_ok-found.ensures c.retain_beginning_with.ensures

pub returns-in-Some-possible_values : goal.returns-in-Some-possible_values
returns-in-Some-possible_values g c =
    IfOk-weaker c.candidates_beginning.result _ _
    (λ kept keeps. of_values _ c.args.argument.now c.args.number c.args.part.now c.in-Some-possible_values.values.now kept.items
    (sym c.get_completer.ensures ∙ c.in_default.is) (sym c.get_candidates.ensures ∙ c.in_default-get_candidates.is) (sym c.possible_values.ensures ∙ ap option_copied c.in-Some-possible_values.is) (search (rules, keeps)))
    c.candidates_beginning.ensures

pub returns-then-not-is_path : goal.returns-then-not-is_path
returns-then-not-is_path g c =
    of_nothing _ c.args.argument.now c.args.number c.args.part.now c.new.result.items c.get_value_hint-hint.result c.is_path.result
    (sym c.get_completer.ensures ∙ c.in_default.is) (sym c.get_candidates.ensures ∙ c.in_default-get_candidates.is) (sym c.possible_values.ensures ∙ ap option_copied c.in_default-possible_values.is)
    c.get_value_hint-hint.ensures c.is_path.ensures (search rules) c.new.ensures.items

pub returns : goal.returns
returns g c =
    IfOk-weaker c.sorted_paths.result _ _
    (λ found finds. of_paths _ c.args.argument.now c.args.number c.args.part.now finds.0 found.items c.get_value_hint-hint.result c.is_path.result
    (sym c.get_completer.ensures ∙ c.in_default.is) (sym c.get_candidates.ensures ∙ c.in_default-get_candidates.is) (sym c.possible_values.ensures ∙ ap option_copied c.in_default-possible_values.is)
    c.get_value_hint-hint.ensures c.is_path.ensures (search rules) finds.1 finds.2)
    c.sorted_paths.ensures
