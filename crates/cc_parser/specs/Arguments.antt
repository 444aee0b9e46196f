-- The rule by which the parser reads an argument.
use Rattle.std.specs.Prelude.{◌≡◌, ℕ, List, [], ◌∷◌, ◌++◌, length, max, Bool, false, not, ◌&&◌, Option, Some, None, is_some, unwrap_or, option_map}
use Rattle.std.specs.Borrow.{Bor}
use Rattle.cc_arg.specs.declared.parts.ArgParts.{ArgParts as Arg}
use Rattle.cc_arg.specs.declared.range.ValueRange.{ValueRange as Range}
use Rattle.cc_arg.specs.declared.action.ArgAction.{ArgAction as Action}
use Rattle.cc_arg.specs.declared.action.ArgAction.TheVariants as action
use Rattle.cc_arg.specs.declared.possible_value.PossibleValue.{PossibleValue as Possible}
use Rattle.cc_arg.specs.Arguments.{possible_values}
use Rattle.clap.specs.Walk.{Rule, is_empty}
use Rattle.clap.specs.declared.builder.action.ArgAction.{ArgAction}
use Rattle.clap.specs.declared.builder.action.ArgAction.TheVariants as clap_action
use Rattle.clap.specs.declared.builder.range.ValueRange.{ValueRange}
use Rattle.clap.specs.declared.builder.possible_value.PossibleValue.{PossibleValue}
use Rattle.clap.specs.declared.builder.value_parser.ValueParser.{ValueParser}
use Rattle.clap.specs.declared.builder.value_parser.ValueParser.TheVariants as vp

abbrev pub parser_action : Action → ArgAction
parser_action action.Set = clap_action.Set
parser_action action.Append = clap_action.Append
parser_action action.SetTrue = clap_action.SetTrue
parser_action action.SetFalse = clap_action.SetFalse
parser_action action.Count = clap_action.Count
parser_action action.Help = clap_action.Help
parser_action action.HelpShort = clap_action.HelpShort
parser_action action.HelpLong = clap_action.HelpLong
parser_action action.Version = clap_action.Version

abbrev pub parser_range : Range → ValueRange
parser_range range =
    record { start_inclusive = range.least; end_inclusive = max range.greatest range.least }

-- the value if one was given, or else the other one
abbrev pub given : {A : Type 0} → Option A → Option A → Option A
given None other = other
given (Some value) other = Some value

-- the default value if there is one, or else the other values
abbrev pub default_or : Option (List ℕ) → List (List ℕ) → List (List ℕ)
default_or None others = others
default_or (Some value) others = value ∷ []

-- none of the settings that change how words are read
abbrev pub reads_simply : Arg → Bool
reads_simply arg = not (is_some arg.value_delimiter) && (not (is_some arg.value_terminator)
    && (not arg.allow_hyphen_values && (not arg.last && not arg.global)))

-- the rule by which a parse reads an argument, without the list of its values
abbrev pub rule_of_argument : Option ValueParser → Arg → Rule
rule_of_argument parser arg = record {
  id = arg.id;
  long = arg.long;
  aliases = arg.visible_aliases ++ arg.aliases;
  short = arg.short;
  short_aliases = arg.visible_short_aliases ++ arg.short_aliases;
  index = arg.index;
  action = Some (parser_action (unwrap_or arg.action action.Set));
  range = option_map parser_range arg.num_args;
  value_names = length arg.value_names;
  defaults = default_or arg.default_value [];
  missing = [];
  trailing_var_arg = false;
  parser = parser;
  ignore_case = false;
  required = arg.required;
  is_simple = reads_simply arg;
  is_free = is_empty arg.conflicts;
}

-- a possible value for `clap` has the same name and no alias
abbrev pub IsPossible : Possible → PossibleValue → Type 0
IsPossible given value = (value.name.now ≡ given.name) × (value.aliases.now ≡ [])

abbrev pub ArePossible : List Possible → List PossibleValue → Type 0
ArePossible [] [] = Unit {0}
ArePossible (x ∷ xs) (y ∷ ys) = IsPossible x y × ArePossible xs ys
ArePossible _ _ = ⊥

-- the parser of the values accepts the possible values, or any text if there are none
abbrev pub TakesPossible : Option (List Possible) → Option ValueParser → Type 0
TakesPossible None parser = parser ≡ None
TakesPossible (Some possible) parser =
    (values : Bor (List PossibleValue)) × (parser ≡ Some (vp.Values values))
    × ArePossible possible values.now

-- the rule is that of the argument
abbrev pub IsRuleOf : Arg → Rule → Type 0
IsRuleOf arg rule =
    (rule ≡ rule_of_argument rule.parser arg) × TakesPossible (possible_values arg) rule.parser

abbrev pub AreRulesOf : List Arg → List Rule → Type 0
AreRulesOf [] [] = Unit {0}
AreRulesOf (arg ∷ args) (rule ∷ rules) = IsRuleOf arg rule × AreRulesOf args rules
AreRulesOf _ _ = ⊥
