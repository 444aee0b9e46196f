use Rattle.std.proofs.Common.{◌≡◌, ◌∙◌, ◌++◌, ap, ap₂, length, refl, sym, true, unwrap_or, option_map, Option, Some, List, [], ℕ, subst}
use Rattle.std.proofs.lemmas.Result.{IfOk-weaker}
use Rattle.std.specs.Option.{option_copied}
use Rattle.cc_arg.specs.declared.action.ArgAction.TheVariants as action
use Rattle.cc_arg.specs.declared.possible_value.PossibleValue.{PossibleValue as Possible}
use Rattle.cc_arg.specs.declared.parts.ArgParts.{ArgParts as Argument}
use Rattle.clap.specs.Simple.{new_rule}
use Rattle.clap.specs.Walk.{Rule, is_empty, rule_of}
use Rattle.clap.specs.declared.builder.value_parser.ValueParser.{ValueParser}
use Rattle.cc_parser.specs.Arguments.{IsRuleOf, TakesPossible, default_or, given, parser_action, parser_range, reads_simply, rule_of_argument}
use Rattle.cc_parser.proofs.RuleParts.{given_none}
use Rattle.cc_parser.proofs.argument.argument.Goals as goal

abbrev with_used : Argument → Rule → Rule
with_used a r = record r {
  action = Some (parser_action (unwrap_or a.action action.Set));
  required = a.required;
  index = given a.index r.index;
  range = given (option_map parser_range a.num_args) r.range;
}

abbrev with_default : Argument → Rule → Rule
with_default a r = record r { defaults = default_or a.default_value r.defaults }

abbrev with_shorts : Argument → Rule → Rule
with_shorts a r = record r {
  short = given a.short r.short;
  short_aliases = r.short_aliases ++ (a.visible_short_aliases ++ a.short_aliases);
}

abbrev with_longs : Argument → Rule → Rule
with_longs a r = record r {
  long = given a.long r.long;
  aliases = r.aliases ++ (a.visible_aliases ++ a.aliases);
}

rule_made : (a : Argument) (names : ℕ) (parser : Option ValueParser) → with_longs a (with_shorts a (record (with_default a (with_used a (record (new_rule a.id) { is_simple = reads_simply a }))) { value_names = names; parser = parser }))
    ≡ record (rule_of_argument parser a) { value_names = names; is_free = true }
rule_made a names parser = λ i. record (rule_of_argument parser a) {
  index = given_none a.index i;
  range = given_none (option_map parser_range a.num_args) i;
  short = given_none a.short i;
  long = given_none a.long i;
  value_names = names;
  is_free = true;
}

pub returns-clause-rule : goal.returns-clause-rule
returns-clause-rule c =
    let a : Argument = record c.args.argument.now { global = c.args.global } in
    let parser : Option ValueParser = c.in_ok-parser.parser in
    let names : ℕ = length c.in_ok-names.names.now in
    let one = c.with_settings-arg.ensures.rule ∙ ap (λ (r : Rule). record r { is_simple = reads_simply a })
    (c.new.ensures.rule ∙ ap new_rule c.get_id.ensures) in
    let used = c.with_use-arg.ensures.rule ∙ ap (with_used a) one in
    let default = c.with_default-arg.ensures.rule ∙ ap (λ (r : Rule). record r { defaults = default_or (option_copied c.get_default_value.result) r.defaults }) used
    ∙ ap (λ (value : Option (List ℕ)). record (with_used a (record (new_rule a.id) { is_simple = reads_simply a })) { defaults = default_or value [] }) c.get_default_value.ensures in
    let two = c.with_texts-arg.ensures.rule ∙ default in
    let three = c.with_parser-arg.ensures.rule ∙ ap (λ (r : Rule). record r { parser = parser })
    (ap rule_of c.value_names.ensures ∙ ap (λ (r : Rule). record r { value_names = names }) two) in
    let four = c.in_ok-arg.ensures.rule ∙ ap (with_shorts a) three in
    let five = c.in_ok-arg-2.ensures.rule ∙ ap (with_longs a) four ∙ rule_made a names parser in
    let counted = c.in_ok-names.ensures ∙ ap length c.get_value_names.ensures in
    IfOk-weaker c.with_conflicts.result _ _ (λ arg rule.
    let six = rule ∙ ap (λ (r : Rule). record r { is_free = is_empty c.conflicting_ids.result.now }) five
    ∙ ap₂ (λ (n : ℕ) (ids : List (List ℕ)). record (rule_of_argument parser a) { value_names = n; is_free = is_empty ids }) counted c.conflicting_ids.ensures in
    subst (IsRuleOf a) (sym six) (
      refl,
      subst (λ (possible : Option (List Possible)). TakesPossible possible parser) c.possible_values.ensures c.in_ok-parser.ensures,
    )) c.with_conflicts.ensures.rule
