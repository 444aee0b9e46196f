-- A new argument, and the range and the action that are in effect if none is set.
use Rattle.std.specs.Prelude.{ℕ, List, [], length, max, Bool, false, if◌then◌else◌, Option, Some, None, unwrap_or, is_some, ◌||◌, ◌&&◌, not, ◌==◌, nat_lt, ◌^◌, ◌-◌}
use Rattle.cc_arg.specs.declared.parts.ArgParts.{ArgParts as Arg}
use Rattle.cc_arg.specs.declared.range.ValueRange.{ValueRange}
use Rattle.cc_arg.specs.declared.action.ArgAction.{ArgAction}
use Rattle.cc_arg.specs.declared.action.ArgAction.TheVariants.{Set, Append, SetTrue}
use Rattle.cc_arg.specs.declared.value_hint.ValueHint.TheVariants.{Unknown}
use Rattle.cc_arg.specs.declared.values_protocol.ValuesProtocol.TheVariants.{Lines}
use Rattle.cc_arg.specs.declared.possible_value.PossibleValue.{PossibleValue}
use Rattle.cc_arg.specs.Action.{action_takes_values}

-- an argument in which only the id is set
abbrev pub new_arg : List ℕ → Arg
new_arg id = record {
  id = id;
  completer = None;
  candidates = None;
  -- the keys: tools/keys.py --write makes these lines from docs/tree.schema.json
  short = None;
  long = None;
  visible_short_aliases = [];
  visible_aliases = [];
  short_aliases = [];
  aliases = [];
  help = None;
  help_heading = None;
  action = None;
  num_args = None;
  value_names = [];
  value_delimiter = None;
  value_terminator = None;
  possible_values = None;
  value_hint = Unknown;
  values_from = None;
  values_file = None;
  values_split = None;
  values_words = false;
  values_protocol = Lines;
  default_value = None;
  conflicts = [];
  required = false;
  last = false;
  global = false;
  index = None;
  allow_hyphen_values = false;
  display_order = None;
  hide = false;
  -- end of the keys
}

-- a positional has neither a short nor a long
abbrev pub is_positional : Arg → Bool
is_positional arg = not (is_some arg.short || is_some arg.long)

-- exactly this many values
abbrev pub exactly : ℕ → ValueRange
exactly count = record { least = count; greatest = count }

-- the range in effect if none is set: no values if the action takes none, otherwise one value for
-- each value name, and at least one
abbrev pub range_by_action : Option ArgAction → ℕ → ValueRange
range_by_action None names = exactly (max names 1)
range_by_action (Some action) names =
    exactly (if action_takes_values action then max names 1 else 0)

-- the range in effect: the one that is set, or the one that the action and the value names imply
abbrev pub range_of : Arg → ValueRange
range_of arg = unwrap_or arg.num_args (range_by_action arg.action (length arg.value_names))

-- an argument takes values if its range allows one
abbrev pub takes_values : Arg → Bool
takes_values arg = nat_lt 0 (range_of arg).greatest

-- the possible values, if a list of them is set and the argument takes values
abbrev pub possible_values : Arg → Option (List PossibleValue)
possible_values arg = if takes_values arg then arg.possible_values else None

-- the action in effect: the one that is set; otherwise that of a flag if the range allows no value,
-- and for a positional without a limit the one that keeps the values of all uses
abbrev pub action_of : Arg → ArgAction
action_of arg = unwrap_or arg.action (if (range_of arg).greatest == 0 then SetTrue
    else (if is_positional arg && ((range_of arg).greatest == 2 ^ 64 - 1) then Append else Set))

-- the argument with its range and its action set to those in effect
abbrev pub filled : Arg → Arg
filled arg = record arg { num_args = Some (range_of arg); action = Some (action_of arg) }
